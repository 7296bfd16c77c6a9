-- Terms as text: `f2(f0,x1)` for symbol 2 over symbol 0 and variable 1.
use Rattle.std.specs.Prelude.{ℕ, ◌≤◌, List, [], ◌∷◌, ◌++◌, ◌≡◌, length}
use Rattle.text.specs.Laying.{Lays}
use Rattle.text.specs.Text.{ascii}
use Rattle.term.specs.Term.{Term, Args, var, app, nil, cons}
use Rattle.term.specs.Prefix.{Node, symbolic, variable}
use Rattle.term.specs.At.{At, ArgsAt}
use Rattle.number_text.specs.Numbers.{counted}
use Rattle.term_text.specs.declared.Texted.{Texted}

-- A node's name.
unfoldable pub name_text : Node → List ℕ
name_text (symbolic f) = counted (ascii "f") f
name_text (variable x) = counted (ascii "x") x

-- A symbol's arguments stand in brackets, a comma between two.
unfoldable mutual
  pub term_text : Term → List ℕ
  term_text (var x) = name_text (variable x)
  term_text (app f ts) = name_text (symbolic f) ++ bracketed ts

  pub bracketed : Args → List ℕ
  bracketed nil = []
  bracketed (cons t ts) = ascii "(" ++ (term_text t ++ later_text ts)

  pub later_text : Args → List ℕ
  later_text nil = ascii ")"
  later_text (cons t ts) = ascii "," ++ (term_text t ++ later_text ts)

-- Arguments up to the closing bracket, the byte `mark` before the first of them.
unfoldable pub arguments_text : (mark : ℕ) → Args → List ℕ
arguments_text mark nil = ascii ")"
arguments_text mark (cons t ts) = (mark ∷ []) ++ (term_text t ++ later_text ts)

-- So many bytes of text were laid, and the term's bytes end at `next`: the text of the term that stands at u, where one does.
pub record LaysTerm (bytes arities : List ℕ) (u : ℕ) (before : List ℕ) (r : Texted) (after : List ℕ) : Type 0 where
  pub within : r.laid ≤ length before
  pub onward : u ≤ r.next
  pub text : (t : Term) (e : ℕ) → At bytes arities u t e → Lays (term_text t) before r.laid after × (r.next ≡ e)

-- The same of so many arguments, from this mark on.
pub record LaysArguments (bytes arities : List ℕ) (many mark u : ℕ) (before : List ℕ) (r : Texted) (after : List ℕ) : Type 0 where
  pub within : r.laid ≤ length before
  pub onward : u ≤ r.next
  pub text : (ts : Args) (e : ℕ) → ArgsAt bytes arities many u ts e → Lays (arguments_text mark ts) before r.laid after × (r.next ≡ e)
