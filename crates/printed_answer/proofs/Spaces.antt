-- Words and the spaces between them: items after spaces are the words of their text, and every text is its words after spaces. Assumes
-- nothing.
use Prim.Native.Nat.{ℕ, zero, suc}
use mathlib.Core.Bool.{Bool, true, false}
use mathlib.Core.List.{List, [], ◌∷◌, ◌++◌, map, flat_map, append_assoc, append-nil, cons≢nil, tail-eq_of_cons-eq}
use mathlib.Core.Logic.{◌≢◌}
use mathlib.Core.Path.{◌≡◌, refl, sym, ap, ◌∙◌}
use lib.Dec.{eqb→eq}
use lib.ListN.{replicate}
use Rattle.reply.proofs.Tests.{passed}
use Rattle.reply.proofs.Every.{Every}
use Rattle.text.specs.Text.{ascii, pieces, space, words, onto_first, nonempty}
use Rattle.text.proofs.Words.{words_first}
use Rattle.printed_answer.specs.WellFormed.{spaces, item_text}

-- A word: neither empty nor with a space in it.
pub record Word (w : List ℕ) : Type 0 where
  pub full : w ≢ []
  pub no_space : Every (λ b. space b ≡ false) w

-- A text that is empty or starts with a space: what may stand behind a word.
abbrev pub Parted : List ℕ → Type 0
Parted [] = Unit {0}
Parted (b ∷ bs) = b ≡ 32

pub spaces_parted : (many : ℕ) → Parted (spaces many)
unfolding spaces
spaces_parted zero = tt
spaces_parted (suc many) = refl

words_space : (rest : List ℕ) → words space (32 ∷ rest) ≡ words space rest
unfolding words pieces nonempty space
words_space rest = refl

words_spaces : (many : ℕ) (rest : List ℕ) → words space (spaces many ++ rest) ≡ words space rest
unfolding spaces
words_spaces zero rest = refl
words_spaces (suc many) rest = words_space (replicate many 32 ++ rest) ∙ words_spaces many rest

pub no_words : (many : ℕ) → words space (spaces many) ≡ []
unfolding words pieces nonempty
no_words many = ap (words space) (sym (append-nil (spaces many))) ∙ words_spaces many []

last_piece : (b : ℕ) (w : List ℕ) → Every (λ c. space c ≡ false) (b ∷ w) → pieces space (b ∷ w) ≡ (b ∷ w) ∷ []
unfolding pieces onto_first
last_piece b [] none = rw (none.0, pieces)
last_piece b (c ∷ w) none = rw (none.0, pieces) (ap (onto_first b) (last_piece c w none.1))

last_word : (w : List ℕ) → Word w → words space w ≡ w ∷ []
unfolding words nonempty
last_word [] word = absurd (word.full refl)
last_word (b ∷ w) word = ap nonempty (last_piece b w word.no_space)

word_then : (w rest : List ℕ) → Word w → Parted rest → words space (w ++ rest) ≡ w ∷ words space rest
word_then w [] word p = ap (words space) (append-nil w) ∙ last_word w word ∙ unfold words pieces nonempty in refl
word_then w (b ∷ rest) word p =
    ap (λ (c : ℕ). words space (w ++ c ∷ rest)) p
    ∙ words_first space w word.full word.no_space 32 rest (unfold space in refl)
    ∙ ap (λ (ws : List (List ℕ)). w ∷ ws) (sym (ap (λ (c : ℕ). words space (c ∷ rest)) p ∙ words_space rest))

-- Items after spaces are the words of their text.
pub item_word : (more : ℕ) (w rest : List ℕ) → Word w → Parted rest → words space (item_text more w ++ rest) ≡ w ∷ words space rest
unfolding item_text ascii
item_word more w rest word p =
    words_space ((spaces more ++ w) ++ rest) ∙ ap (words space) (append_assoc (spaces more) w rest) ∙ words_spaces more (w ++ rest)
    ∙ word_then w rest word p

-- A word after so many spaces and one more.
pub record Gap : Type 0 where
  pub more : ℕ
  pub word : List ℕ

abbrev pub gap_text : Gap → List ℕ
gap_text g = item_text g.more g.word

pub record Gaps (text : List ℕ) (ws : List (List ℕ)) : Type 0 where
  pub gaps : List Gap
  pub at_end : ℕ
  pub parts : text ≡ flat_map gap_text gaps ++ spaces at_end
  pub same : map (λ (g : Gap). g.word) gaps ≡ ws

abbrev spaced_piece : List ℕ → List ℕ
spaced_piece piece = 32 ∷ piece

pieces_back : (text : List ℕ) → (many : ℕ) × (32 ∷ text ≡ flat_map spaced_piece (pieces space text) ++ spaces many)
unfolding pieces flat_map spaces space
pieces_back [] = (1, refl)
pieces_back (b ∷ bs) = go (space b) refl (pieces_back bs)
  where
    onto :
        (ps : List (List ℕ)) (many : ℕ) → 32 ∷ bs ≡ flat_map spaced_piece ps ++ replicate many 32 →
        (more : ℕ) × (32 ∷ b ∷ bs ≡ flat_map spaced_piece (onto_first b ps) ++ replicate more 32)
    onto [] zero e = absurd (cons≢nil e)
    onto [] (suc many) e = (many, unfold onto_first in ap (λ (l : List ℕ). 32 ∷ b ∷ l) (tail-eq_of_cons-eq e))
    onto (p ∷ ps) many e = (many, unfold onto_first in ap (λ (l : List ℕ). 32 ∷ b ∷ l) (tail-eq_of_cons-eq e))

    go :
        (t : Bool) → space b ≡ t → ((many : ℕ) × (32 ∷ bs ≡ flat_map spaced_piece (pieces space bs) ++ replicate many 32)) →
        (many : ℕ) × (32 ∷ b ∷ bs ≡ flat_map spaced_piece (pieces space (b ∷ bs)) ++ replicate many 32)
    go true e (many, behind) =
        (many, rw (pieces, e) (ap (λ (l : List ℕ). 32 ∷ l) (ap (λ (c : ℕ). c ∷ bs) (eqb→eq b 32 (passed e)) ∙ behind)))
    go false e (many, behind) = rw (pieces, e) (onto (pieces space bs) many behind)

gaps_of : (ps : List (List ℕ)) (many : ℕ) → Gaps (flat_map spaced_piece ps ++ spaces many) (nonempty ps)
unfolding flat_map nonempty item_text ascii spaces
gaps_of [] many = record { gaps = []; at_end = many; parts = refl; same = refl }
gaps_of ([] ∷ ps) many = wider (gaps_of ps many).gaps (gaps_of ps many).at_end (gaps_of ps many).parts (gaps_of ps many).same
  where
    wider :
        (gaps : List Gap) (at_end : ℕ) → flat_map spaced_piece ps ++ replicate many 32 ≡ flat_map gap_text gaps ++ replicate at_end 32 →
        map (λ (g : Gap). g.word) gaps ≡ nonempty ps → Gaps (32 ∷ flat_map spaced_piece ps ++ replicate many 32) (nonempty ps)
    wider [] at_end parts same = record { gaps = []; at_end = suc at_end; parts = ap (λ (l : List ℕ). 32 ∷ l) parts; same = same }
    wider (g ∷ gaps) at_end parts same = record {
      gaps = record { more = suc g.more; word = g.word } ∷ gaps;
      at_end = at_end;
      parts = ap (λ (l : List ℕ). 32 ∷ l) parts;
      same = same;
    }
gaps_of ((b ∷ p) ∷ ps) many = record {
  gaps = record { more = 0; word = b ∷ p } ∷ (gaps_of ps many).gaps;
  at_end = (gaps_of ps many).at_end;
  parts = ap (λ (l : List ℕ). 32 ∷ b ∷ l)
      (append_assoc p (flat_map spaced_piece ps) (replicate many 32) ∙ ap (λ (l : List ℕ). p ++ l) (gaps_of ps many).parts
      ∙ sym (append_assoc p (flat_map gap_text (gaps_of ps many).gaps) (replicate (gaps_of ps many).at_end 32)));
  same = ap (λ (ws : List (List ℕ)). (b ∷ p) ∷ ws) (gaps_of ps many).same;
}

-- A space and any text are the text's words after spaces, and spaces at the end.
pub gaps_in : (text : List ℕ) → Gaps (32 ∷ text) (words space text)
unfolding words
gaps_in text =
    let (many, e) = pieces_back text in
    let found = gaps_of (pieces space text) many in
    record { gaps = found.gaps; at_end = found.at_end; parts = e ∙ found.parts; same = found.same }
