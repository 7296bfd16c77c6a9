-- The block call gives the whole file: the texts of the blocks, one after another, are what the clause program prints, and refusal 10
-- comes exactly from the number of blocks on. Assumes nothing.
use Prim.Native.Nat.{ℕ, suc, ◌+◌, ◌≤◌, ◌<◌}
use mathlib.Core.List.{List, [], ◌∷◌, ◌++◌, flat_map, flatten}
use mathlib.Core.Logic.{◌↔◌}
use mathlib.Core.Path.{◌≡◌, refl, sym, ap, ap₂, ◌∙◌}
use native.Mathlib.Decide.{dec_lt}
use native.Mathlib.Omega.{arith}
use lib.ListN.{length, get_or}
use Rattle.reply.specs.Reply.{Reply, Refusal, given, refused, ◌at◌}
use Rattle.book.specs.Book.{Book}
use Rattle.book.specs.Reading.{read_book}
use Rattle.clauses.specs.File.{file_blocks, file_bytes, block, printed, clause_program}
use Rattle.clauses.specs.Numbering.{numbers}
use Rattle.clauses.proofs.BlockReply.{no_block, short_room, its_text, block_of_read}
use Rattle.clauses.proofs.Elements.{element_none, element_there}

-- The text that a reply gives; a refusal gives none.
unfoldable pub text_in : Reply (List ℕ) → List ℕ
text_in (given text) = text
text_in (refused r) = []

-- Lists by their numbers, one after another.
each_number :
    {A : Type 0} (text : ℕ → List A) (first : ℕ) (l : List (List A)) → ((i : ℕ) → i < length l → text (first + i) ≡ get_or l i []) →
    flat_map text (numbers first (length l)) ≡ flatten l
unfolding flat_map flatten numbers
each_number text first [] there = refl
each_number {A} text first (x ∷ l) there =
    let here : first ≡ first + 0 = omega arith in
    ap₂ (λ (y z : List A). y ++ z) (ap text here ∙ there 0 (omega arith))
    (each_number text (suc first) l (λ i h. let next : suc first + i ≡ first + suc i = omega arith in ap text next ∙ there (suc i) (omega arith)))

module _ (bytes : List ℕ) (book : Book) (read : read_book bytes ≡ given book) (room : ℕ) where
  its_block : 512 ≤ room → (number : ℕ) → number < length (file_blocks book) → block bytes number room ≡ given (get_or (file_blocks book) number [])
  its_block h number within =
      block_of_read bytes number room book read ∙ its_text book number room (element_there (file_blocks book) number [] within) h

  -- "prints all blocks"
  pub blocks_are_the_file :
      512 ≤ room → flat_map (λ (number : ℕ). text_in (block bytes number room)) (numbers 0 (length (file_blocks book))) ≡ clause_program bytes
  unfolding text_in clause_program printed file_bytes
  blocks_are_the_file h =
      each_number (λ (number : ℕ). text_in (block bytes number room)) 0 (file_blocks book)
      (λ number within.
      let same : 0 + number ≡ number = omega arith in
      ap (λ (i : ℕ). text_in (block bytes i room)) same ∙ ap text_in (its_block h number within))
      ∙ ap printed (sym read)

  -- Refusal 10, "no block of that number".
  pub no_block_exactly : (number : ℕ) → (block bytes number room ≡ refused (10 at 0)) ↔ (length (file_blocks book) ≤ number)
  no_block_exactly number = (
    λ e.
        elim (dec_lt number (length (file_blocks book))) [
          | yes within ↦ absurd (other within e)
          | no behind ↦ omega arith
        ],
    λ behind. block_of_read bytes number room book read ∙ no_block book number room (element_none (file_blocks book) number behind),
  )
    where
      other : number < length (file_blocks book) → block bytes number room ≡ refused (10 at 0) → ⊥
      other within e =
          let there = element_there (file_blocks book) number [] within in
          let of-book = block_of_read bytes number room book read in
          elim (dec_lt room 512) [
            | yes short ↦
                let nine = short_room book number room there short in
                let same : ◌≡◌ {A = Refusal} (9 at 0) (10 at 0) = cc in
                omega (arith, ap (λ (r : Refusal). r.number) same)
            | no enough ↦
                let text = its_text book number room there (omega arith) in
                let z : ◌≡◌ {A = ℕ} 0 1 = cc in
                omega arith
          ]
