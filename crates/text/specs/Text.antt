-- Texts as bytes: ASCII, pieces and words of a text, and the line that tells a refusal.
use Rattle.std.specs.Prelude.{ℕ, suc, Bool, true, false, ◌&&◌, List, [], ◌∷◌, ◌++◌, eqb}
use Prim.Native.String.{String}
use Prim.Native.String as Words
use Prim.Native.Char.{code}
use Rattle.reply.specs.Reply.{Refusal}
use Rattle.text.specs.Decimal.{decimal}

-- The bytes of a word in ASCII.
unfoldable pub ascii : String → List ℕ
ascii Words.[] = []
ascii (Words.◌∷◌ c cs) = code c ∷ ascii cs

-- Whether two texts are the same bytes.
unfoldable pub same_text : List ℕ → List ℕ → Bool
same_text [] [] = true
same_text [] (b ∷ bs) = false
same_text (a ∷ as') [] = false
same_text (a ∷ as') (b ∷ bs) = eqb a b && same_text as' bs

-- The pieces of a text, each ended by a byte that passes the test `ends`; the last may go without it.
unfoldable pub onto_first : ℕ → List (List ℕ) → List (List ℕ)
onto_first b [] = (b ∷ []) ∷ []
onto_first b (piece ∷ pieces) = (b ∷ piece) ∷ pieces

unfoldable pub pieces : (ends : ℕ → Bool) → List ℕ → List (List ℕ)
pieces ends [] = []
pieces ends (b ∷ bs) = elim (ends b) [ true ↦ [] ∷ pieces ends bs | false ↦ onto_first b (pieces ends bs) ]

-- How many bytes stand before the first one that passes the test `ends`; where none does, all of them.
unfoldable pub up_to : (ends : ℕ → Bool) → List ℕ → ℕ
up_to ends [] = 0
up_to ends (b ∷ bs) = elim (ends b) [ true ↦ 0 | false ↦ suc (up_to ends bs) ]

unfoldable pub space : ℕ → Bool
space b = eqb b 32

unfoldable pub newline : ℕ → Bool
newline b = eqb b 10

unfoldable pub nonempty : List (List ℕ) → List (List ℕ)
nonempty [] = []
nonempty ([] ∷ pieces) = nonempty pieces
nonempty ((b ∷ bs) ∷ pieces) = (b ∷ bs) ∷ nonempty pieces

-- The words of a text: its longest runs of bytes that do not pass the test `blank`.
unfoldable pub words : (blank : ℕ → Bool) → List ℕ → List (List ℕ)
words blank text = nonempty (pieces blank text)

-- "The clause program .. prints .. the one line `refused N at P`."
unfoldable pub refused_line : Refusal → List ℕ
refused_line r = ascii "refused " ++ decimal r.number ++ ascii " at " ++ decimal r.place ++ ascii "\n"
