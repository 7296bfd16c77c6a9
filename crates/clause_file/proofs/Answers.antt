-- What the block call's answers say of the block of a number. Assumes nothing.
use Prim.Native.Nat.{ℕ, ◌≤◌, ◌<◌}
use mathlib.Core.List.{List, [], flat_map}
use mathlib.Core.Option.{Option, none, some}
use mathlib.Core.Path.{◌≡◌, refl}
use native.Mathlib.Decide.{dec_lt}
use native.Mathlib.Omega.{arith}
use lib.ListN.{length, drop, get_elem?, length-map}
use Rattle.std.specs.Prelude.{Ok, Err}
use Rattle.reply.specs.Reply.{Refusal, Reply, given, refused}
use Rattle.reply.specs.Replied.{replied}
use Rattle.reply.specs.declared.Refusal.{Refusal as Named}
use Rattle.reply.specs.Lent.{laid, length_of}
use Rattle.book.specs.Book.{Book}
use Rattle.clauses.specs.File.{clause_bytes, file_blocks, block_of}
use Rattle.book.specs.Limits.{WithinLimits}
use Rattle.clauses.proofs.Counts.{blocks_counted}
use Rattle.clauses.specs.Blocks.{blocks}
use Rattle.clauses.proofs.BlockReply.{no_block, short_room, its_text}
use Rattle.clause_file.specs.Filling.{fitting}
use Rattle.clause_file.proofs.Fitting.{fitting_short, fitting_none}

-- A refusal lays nothing.
pub nothing_laid :
    (x : Reply (List ℕ)) (why : Named) {buffer after : List ℕ} → replied {A = ℕ} (Err why) ≡ length_of x → after ≡ laid x buffer → after ≡ buffer
unfolding replied length_of laid
nothing_laid (given bytes) why e f = let z : ◌≡◌ {A = ℕ} 0 1 = cc in absurd (omega arith)
nothing_laid (refused r) why e f = f

-- A length is that of the block's text.
pub record TextAt (book : Book) (number room many : ℕ) : Type 0 where
  pub text : List ℕ
  pub there : get_elem? (file_blocks book) number ≡ some text
  pub enough : 512 ≤ room
  pub all : many ≡ length text
  pub reply : block_of book number room ≡ given text

module _ (book : Book) (number room : ℕ) where
  pub text_at : (many : ℕ) → replied (Ok many) ≡ length_of (block_of book number room) → TextAt book number room many
  unfolding replied length_of
  text_at many e = go (get_elem? (file_blocks book) number) refl
    where
      refusal : {why : Refusal} → block_of book number room ≡ refused why → ⊥
      refusal r = let z : ◌≡◌ {A = ℕ} 0 1 = cc in omega arith

      go : (found : Option (List ℕ)) → get_elem? (file_blocks book) number ≡ found → TextAt book number room many
      go none f = absurd (refusal (no_block book number room f))
      go (some text) f =
          elim (dec_lt room 512) [
            | yes h ↦ absurd (refusal (short_room book number room f h))
            | no h ↦
                let reply = its_text book number room f (omega arith) in
                record { text = text; there = f; enough = omega arith; all = cc; reply = reply }
          ]

  pub none_fits :
      (why : Named) → replied {A = ℕ} (Err why) ≡ length_of (block_of book number room) → fitting room (drop number (file_blocks book)) ≡ []
  unfolding replied length_of
  none_fits why e = go (get_elem? (file_blocks book) number) refl
    where
      given_not : {text : List ℕ} → block_of book number room ≡ given text → ⊥
      given_not r = let z : ◌≡◌ {A = ℕ} 0 1 = cc in omega arith

      go : (found : Option (List ℕ)) → get_elem? (file_blocks book) number ≡ found → fitting room (drop number (file_blocks book)) ≡ []
      go none f = fitting_none room (file_blocks book) number f
      go (some text) f =
          elim (dec_lt room 512) [
            | yes h ↦ fitting_short room (drop number (file_blocks book)) h
            | no h ↦ absurd (given_not (its_text book number room f (omega arith)))
          ]

-- Far fewer blocks than a number can count.
pub few_blocks : (book : Book) → WithinLimits book → length (file_blocks book) < 4096
unfolding file_blocks
few_blocks book limits = omega (arith, blocks_counted book limits, length-map (blocks book) (flat_map clause_bytes))
