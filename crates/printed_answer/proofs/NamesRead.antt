-- Literals that name the rank variables as they may are read, word by word, to literals that give each rank variable its value: none is
-- named before, and what was read and what follows name them together. Assumes nothing.
use Prim.Native.Nat.{ℕ, suc, ◌+◌, ◌≤◌}
use mathlib.Core.Bool.{Bool, true, false, ◌||◌}
use mathlib.Core.List.Memᴰ
use mathlib.Core.List.{List, [], ◌∷◌, ◌++◌, map, Memᴰ}
use mathlib.Core.Path.{◌≡◌, refl, sym, ap, subst, ◌∙◌}
use native.Mathlib.Decide.{dec_le, ℕ_discrete}
use native.Mathlib.Omega.{arith}
use lib.Dec.{eqb}
use borrow.Author.Tests.{eq-eqb, ne_eqb}
use Rattle.reply.specs.Reply.{Refusal, given, ◌>>=◌}
use Rattle.reply.proofs.Every.{Every, every_of_members}
use Rattle.clauses.specs.Cnf.{Literal, is, is_not, Assignment, variable_of}
use Rattle.clauses.proofs.Items.{Within, item_literal}
use Rattle.answer_lines.specs.Values.{unclosed, names, named, item_after, items_after}
use Rattle.answer_lines.specs.Values.{valued}
use Rattle.answer_lines.proofs.Naming.{once, other}
use Rattle.printed_answer.specs.WellFormed.{literal_text, times_named, Names}
use Rattle.printed_answer.proofs.LinesRead.{literal_word_lem}

-- How often a literal's own variable, and another one, is named with it.
pub named_here : (l : Literal) (v : ℕ) (ls : List Literal) → variable_of l ≡ v → times_named v (l ∷ ls) ≡ suc (times_named v ls)
unfolding times_named
named_here l v ls e = rw (times_named, eq-eqb (variable_of l) v e)

pub named_elsewhere : (l : Literal) (v : ℕ) (ls : List Literal) → (variable_of l ≡ v → ⊥) → times_named v (l ∷ ls) ≡ times_named v ls
unfolding times_named
named_elsewhere l v ls d = rw (times_named, ne_eqb (variable_of l) v d)

pub not_named : (v : ℕ) (ls : List Literal) → times_named v ls ≡ 0 → names v ls ≡ false
unfolding names
not_named v [] e = refl
not_named v (l ∷ ls) e = go (ℕ_discrete (variable_of l) v) (not_named v ls)
  where
    go : Dec (variable_of l ≡ v) → (times_named v ls ≡ 0 → names v ls ≡ false) → names v (l ∷ ls) ≡ false
    go (yes q) behind = absurd (omega (arith, named_here l v ls q, e))
    go (no d) behind = rw (names, ne_eqb (variable_of l) v d) (behind (sym (named_elsewhere l v ls d) ∙ e))

-- The value of a variable goes by its positive literal.
pub valued_elsewhere : (l : Literal) (v : ℕ) (ls : List Literal) → (variable_of l ≡ v → ⊥) → valued (l ∷ ls) v ≡ valued ls v
unfolding valued
valued_elsewhere (is u) v ls d = rw (ne_eqb u v d)
valued_elsewhere (is_not u) v ls d = refl

pub valued_moved : (l : Literal) (v : ℕ) (ls ms : List Literal) → (valued (l ∷ ls) v || valued ms v) ≡ (valued ls v || valued (l ∷ ms) v)
unfolding valued
valued_moved (is u) v ls ms = go (eqb u v) (valued ls v)
  where
    go : (a b : Bool) → ((a || b) || valued ms v) ≡ (b || (a || valued ms v))
    go true true = refl
    go true false = refl
    go false true = refl
    go false false = refl
valued_moved (is_not u) v ls ms = refl

valued_behind : (l : Literal) (v : ℕ) (ls : List Literal) → valued ls v ≡ true → valued (l ∷ ls) v ≡ true
unfolding valued
valued_behind (is u) v ls e = go (eqb u v)
  where
    go : (b : Bool) → (b || valued ls v) ≡ true
    go true = refl
    go false = e
valued_behind (is_not u) v ls e = e

valued_first : (v : ℕ) (ls : List Literal) → valued (is v ∷ ls) v ≡ true
unfolding valued
valued_first v ls = rw (eq-eqb v v refl)

pub member_valued : (v : ℕ) (ls : List Literal) → Memᴰ (is v) ls → valued ls v ≡ true
member_valued v [] m = absurd (Memᴰ.not-nil m)
member_valued v (l ∷ ls) (Memᴰ.head e) = subst (λ (m : Literal). valued (m ∷ ls) v ≡ true) e (valued_first v ls)
member_valued v (l ∷ ls) (Memᴰ.tail m) = valued_behind l v ls (member_valued v ls m)

pub valued_member : (v : ℕ) (ls : List Literal) → valued ls v ≡ true → Memᴰ (is v) ls
unfolding valued
valued_member v [] e = absurd (let z : ◌≡◌ {A = ℕ} 0 1 = cc in omega arith)
valued_member v (is u ∷ ls) e = go (ℕ_discrete u v) (valued_member v ls)
  where
    go : Dec (u ≡ v) → (valued ls v ≡ true → Memᴰ (is v) ls) → Memᴰ (is v) (is u ∷ ls)
    go (yes q) behind = Memᴰ.head (ap (λ (w : ℕ). is w) (sym q))
    go (no d) behind = Memᴰ.tail (behind (sym (valued_elsewhere (is u) v ls d) ∙ e))
valued_member v (is_not u ∷ ls) e = Memᴰ.tail (valued_member v ls e)

module _ (variables rank_variables : ℕ) (α : Assignment) where
  -- Literals that were read, and those that follow: together they name no rank variable twice, and tell each.
  pub record Sofar (had rest : List Literal) : Type 0 where
    pub within : Every (λ l. Within variables (variable_of l)) rest
    pub once : (v : ℕ) → v ≤ rank_variables → times_named v had + times_named v rest ≤ 1
    pub told : (v : ℕ) → 1 ≤ v → v ≤ rank_variables → (valued rest v || valued had v) ≡ α v

  -- Nothing was read yet.
  pub none_yet : (ls : List Literal) → Names variables rank_variables α ls → Sofar [] ls
  none_yet ls names = record { within = every_of_members _ ls inside; once = few; told = value }
    where
      inside : (l : Literal) → Memᴰ l ls → Within variables (variable_of l)
      inside (is v) m = record { first = (names.within (is v) m).0; last = (names.within (is v) m).1 }
      inside (is_not v) m = record { first = (names.within (is_not v) m).0; last = (names.within (is_not v) m).1 }

      few : (v : ℕ) → v ≤ rank_variables → times_named v [] + times_named v ls ≤ 1
      few v h = unfold times_named in omega (arith, names.once v h)

      value : (v : ℕ) → 1 ≤ v → v ≤ rank_variables → (valued ls v || valued [] v) ≡ α v
      value v low high = unfold valued in go (valued ls v) (α v) refl refl
        where
          go : (a b : Bool) → valued ls v ≡ a → α v ≡ b → (valued ls v || false) ≡ α v
          go true b p q = rw p (sym ((names.counts v low high).1 (valued_member v ls p)))
          go false true p q = absurd (let z : ◌≡◌ {A = ℕ} 0 1 = cc (member_valued v ls ((names.counts v low high).0 q)) in omega arith)
          go false false p q = rw p (sym q)

  pub all_read : (had : List Literal) → Sofar had [] → (v : ℕ) → 1 ≤ v → v ≤ rank_variables → valued had v ≡ α v
  unfolding valued
  all_read had sofar v low high = sofar.told v low high

  -- One more literal.
  module _ (fault : Refusal) where
    one_more :
        (l : Literal) (had rest : List Literal) → Sofar had (l ∷ rest) →
        (had' : List Literal) × (named fault rank_variables l had ≡ given (unclosed had')) × Sofar had' rest
    one_more l had rest sofar = go (dec_le (variable_of l) rank_variables)
      where
        first : variable_of l ≤ rank_variables → names (variable_of l) had ≡ false
        first h =
            not_named (variable_of l) had (omega (arith, sofar.once (variable_of l) h, named_here l (variable_of l) rest refl))

        few : (v : ℕ) → v ≤ rank_variables → Dec (variable_of l ≡ v) → times_named v (l ∷ had) + times_named v rest ≤ 1
        few v h (yes e) = omega (arith, sofar.once v h, named_here l v had e, named_here l v rest e)
        few v h (no d) = omega (arith, sofar.once v h, named_elsewhere l v had d, named_elsewhere l v rest d)

        go : Dec (variable_of l ≤ rank_variables) → (had' : List Literal) × (named fault rank_variables l had ≡ given (unclosed had')) × Sofar had' rest
        go (yes h) = (
          l ∷ had,
          once fault rank_variables l had h (first h),
          record {
            within = sofar.within.1;
            once = λ v k. few v k (ℕ_discrete (variable_of l) v);
            told = λ v low high. sym (valued_moved l v rest had) ∙ sofar.told v low high;
          },
        )
        go (no h) = (
          had,
          other fault rank_variables l had (omega arith),
          record {
            within = sofar.within.1;
            once = λ v (k : v ≤ rank_variables).
                let d : variable_of l ≡ v → ⊥ = λ (e : variable_of l ≡ v). omega arith in
                omega (arith, sofar.once v k, named_elsewhere l v rest d);
            told = λ v low (k : v ≤ rank_variables).
                let d : variable_of l ≡ v → ⊥ = λ (e : variable_of l ≡ v). omega arith in
                ap (λ (b : Bool). b || valued had v) (sym (valued_elsewhere l v rest d)) ∙ sofar.told v low k;
          },
        )

    next_read :
        (l : Literal) → Within variables (variable_of l) → (had had' : List Literal) → named fault rank_variables l had ≡ given (unclosed had') →
        (ws : List (List ℕ)) →
        items_after fault variables rank_variables (unclosed had) (literal_text l ∷ ws) ≡ items_after fault variables rank_variables (unclosed had') ws
    unfolding items_after item_after ◌>>=◌
    next_read l within had had' e ws = rw (literal_word_lem l, items_after, item_literal variables l within, item_after, e)

    -- The literals of a line, and whatever words follow.
    pub literals_read :
        (ls had rest : List Literal) → Sofar had (ls ++ rest) → (ws : List (List ℕ)) →
        (had' : List Literal)
        × (items_after fault variables rank_variables (unclosed had) (map literal_text ls ++ ws) ≡ items_after fault variables rank_variables (unclosed had') ws)
        × Sofar had' rest
    literals_read [] had rest sofar ws = (had, refl, sofar)
    literals_read (l ∷ ls) had rest sofar ws =
        let (had₁, e₁, sofar₁) = one_more l had (ls ++ rest) sofar in
        let (had₂, e₂, sofar₂) = literals_read ls had₁ rest sofar₁ ws in
        (had₂, next_read l sofar.within.0 had had₁ e₁ _ ∙ e₂, sofar₂)
