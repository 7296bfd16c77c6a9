-- What literals were taken, by what is left of them: they are the texts of literals from 1 to V, no rank variable is named twice, and what is
-- left gives each rank variable the value that they give it. Assumes nothing.
use Prim.Native.Nat.{ℕ, ◌+◌, ◌≤◌, ◌<◌}
use mathlib.Core.Bool.{Bool, true, false, not, ◌||◌}
use mathlib.Core.List.{List, [], ◌∷◌, ◌++◌, map, flat_map, append_assoc, append-nil}
use mathlib.Core.Path.{◌≡◌, refl, sym, ap, subst, ◌∙◌}
use native.Mathlib.Decide.{ℕ_discrete}
use native.Mathlib.Omega.{arith}
use lib.Dec.{T, leb, leb→le}
use lib.ListN.{length}
use borrow.Author.Tests.{leb-false, eq-eqb, ne_eqb}
use Rattle.reply.specs.Reply.{Refusal, Reply, given, unless, ◌>>◌}
use Rattle.reply.proofs.Tests.{passed}
use Rattle.reply.proofs.Given.{refused_not_given, bind_given, unless_given}
use Rattle.reply.proofs.Every.{Every, every_member}
use Rattle.text.specs.Text.{ascii}
use Rattle.clauses.specs.Cnf.{Literal, Assignment, variable_of}
use Rattle.clauses.specs.Item.{Item, closing, literal, faulty, item}
use Rattle.answer_lines.specs.Values.{Values, unclosed, closed, names, named, item_after, items_after}
use Rattle.answer_lines.specs.Values.{valued}
use Rattle.printed_answer.specs.WellFormed.{Spaced, literal_text, item_text, spaced_text, times_named, Names}
use Rattle.printed_answer.proofs.Spaces.{Gap, gap_text}
use Rattle.printed_answer.proofs.NumberBack.{closing_back, literal_text_back}
use Rattle.printed_answer.proofs.NamesRead.{named_here, named_elsewhere, valued_elsewhere, valued_moved, member_valued, valued_member}
use Rattle.printed_answer.proofs.Taken.{literals_of}

names_here : (l : Literal) (v : ℕ) (ls : List Literal) → variable_of l ≡ v → names v (l ∷ ls) ≡ true
unfolding names
names_here l v ls e = rw (names, eq-eqb (variable_of l) v e)

names_elsewhere : (l : Literal) (v : ℕ) (ls : List Literal) → (variable_of l ≡ v → ⊥) → names v (l ∷ ls) ≡ names v ls
unfolding names
names_elsewhere l v ls d = rw (names, ne_eqb (variable_of l) v d)

not_named_times : (v : ℕ) (ls : List Literal) → names v ls ≡ false → times_named v ls ≡ 0
not_named_times v [] e = unfold times_named in refl
not_named_times v (l ∷ ls) e = go (ℕ_discrete (variable_of l) v) (not_named_times v ls)
  where
    go : Dec (variable_of l ≡ v) → (names v ls ≡ false → times_named v ls ≡ 0) → times_named v (l ∷ ls) ≡ 0
    go (yes q) behind = absurd (let z : ◌≡◌ {A = ℕ} 0 1 = cc (sym e ∙ names_here l v ls q) in omega arith)
    go (no d) behind = named_elsewhere l v ls d ∙ behind (sym (names_elsewhere l v ls d) ∙ e)

module _ (variables rank_variables : ℕ) where
  -- The literals `ls` were taken behind `had`, and `left` is left.
  pub record TakenBehind (had ls left : List Literal) : Type 0 where
    pub within : Every (λ l. (1 ≤ variable_of l) × (variable_of l ≤ variables)) ls
    pub times : (v : ℕ) → v ≤ rank_variables → times_named v left ≡ times_named v had + times_named v ls
    pub few : (v : ℕ) → v ≤ rank_variables → times_named v had ≤ 1 → times_named v left ≤ 1
    pub told : (v : ℕ) → v ≤ rank_variables → valued left v ≡ (valued ls v || valued had v)

  pub none_taken : (had : List Literal) → TakenBehind had [] had
  unfolding times_named valued
  none_taken had = record { within = tt; times = λ v h. omega arith; few = λ v h k. k; told = λ v h. refl }

  module _ (fault : Refusal) where
    -- One literal: of a rank variable not named before, or of another variable.
    data OneNamed (l : Literal) (had : List Literal) (vs : Values) : Type 0 where
      rank : variable_of l ≤ rank_variables → names (variable_of l) had ≡ false → vs ≡ unclosed (l ∷ had) → OneNamed l had vs
      other : rank_variables < variable_of l → vs ≡ unclosed had → OneNamed l had vs

    not_true : (b : Bool) → T (not b) → b ≡ false
    not_true true h = absurd h
    not_true false h = refl

    one_named : (l : Literal) (had : List Literal) (vs : Values) → named fault rank_variables l had ≡ given vs → OneNamed l had vs
    unfolding named
    one_named l had vs e = go (leb (variable_of l) rank_variables) refl e
      where
        go :
            (b : Bool) → leb (variable_of l) rank_variables ≡ b →
            ◌≡◌ {A = Reply Values}
            (elim b [ true ↦ ◌>>◌ (unless (not (names (variable_of l) had)) fault) (given (unclosed (l ∷ had))) | false ↦ given (unclosed had) ]) (given vs) →
            OneNamed l had vs
        go true t h =
            let (new, same) = unless_given (not (names (variable_of l) had)) fault (given (unclosed (l ∷ had))) vs h in
            rank (leb→le _ _ (passed t)) (not_true (names (variable_of l) had) new) (cc same)
        go false t h = other (leb-false _ _ t) (cc h)

    pub one_taken :
        (l : Literal) (had : List Literal) (vs : Values) → (1 ≤ variable_of l) × (variable_of l ≤ variables) → named fault rank_variables l had ≡ given vs →
        (had' : List Literal) × (vs ≡ unclosed had') × ((ls left : List Literal) → TakenBehind had' ls left → TakenBehind had (l ∷ ls) left)
    one_taken l had vs within e = go (one_named l had vs e)
      where
        go :
            OneNamed l had vs →
            (had' : List Literal) × (vs ≡ unclosed had') × ((ls left : List Literal) → TakenBehind had' ls left → TakenBehind had (l ∷ ls) left)
        go (rank low new same) = (
          l ∷ had,
          same,
          λ ls left taken. record {
            within = (within, taken.within);
            times = λ v h. rank_times ls left taken v h (ℕ_discrete (variable_of l) v);
            few = λ v h k. taken.few v h (rank_few v k (ℕ_discrete (variable_of l) v));
            told = λ v h. taken.told v h ∙ sym (valued_moved l v ls had);
          },
        )
          where
            rank_times :
                (ls left : List Literal) → TakenBehind (l ∷ had) ls left → (v : ℕ) → v ≤ rank_variables → Dec (variable_of l ≡ v) →
                times_named v left ≡ times_named v had + times_named v (l ∷ ls)
            rank_times ls left taken v h (yes q) = omega (arith, taken.times v h, named_here l v had q, named_here l v ls q)
            rank_times ls left taken v h (no d) = omega (arith, taken.times v h, named_elsewhere l v had d, named_elsewhere l v ls d)

            rank_few : (v : ℕ) → times_named v had ≤ 1 → Dec (variable_of l ≡ v) → times_named v (l ∷ had) ≤ 1
            rank_few v k (yes q) =
                let unnamed : times_named v had ≡ 0 = subst (λ (u : ℕ). times_named u had ≡ 0) q (not_named_times (variable_of l) had new) in
                omega (arith, named_here l v had q)
            rank_few v k (no d) = omega (arith, named_elsewhere l v had d)
        go (other above same) = (
          had,
          same,
          λ ls left taken. record {
            within = (within, taken.within);
            times = λ v (h : v ≤ rank_variables). omega (arith, taken.times v h, named_elsewhere l v ls (another v h));
            few = taken.few;
            told = λ v (h : v ≤ rank_variables). taken.told v h ∙ ap (λ (b : Bool). b || valued had v) (sym (valued_elsewhere l v ls (another v h)));
          },
        )
          where
            another : (v : ℕ) → v ≤ rank_variables → variable_of l ≡ v → ⊥
            another v h q = omega arith

    -- The items of a v line, each a word after spaces.
    pub data ItemsAre (gaps : List Gap) (had : List Literal) (vs : Values) : Type 0 where
      no_zero :
          (ss : List Spaced) (had' : List Literal) → vs ≡ unclosed had' → length ss ≡ length gaps → flat_map gap_text gaps ≡ flat_map spaced_text ss →
          ((ls left : List Literal) → TakenBehind had' ls left → TakenBehind had (literals_of ss ++ ls) left) → ItemsAre gaps had vs
      a_zero :
          (ss : List Spaced) (more : ℕ) (had' : List Literal) → vs ≡ closed had' → flat_map gap_text gaps ≡ flat_map spaced_text ss ++ item_text more (ascii "0") →
          ((ls left : List Literal) → TakenBehind had' ls left → TakenBehind had (literals_of ss ++ ls) left) → ItemsAre gaps had vs

    abbrev words_of : List Gap → List (List ℕ)
    words_of gaps = map (λ (g : Gap). g.word) gaps

    none_behind :
        (gaps : List Gap) (had : List Literal) (vs : Values) → items_after fault variables rank_variables (closed had) (words_of gaps) ≡ given vs →
        (gaps ≡ []) × (vs ≡ closed had)
    unfolding items_after item_after
    none_behind [] had vs e = (refl, cc e)
    none_behind (g ∷ gaps) had vs e =
        let (vs', refusal, rest) = bind_given _ _ _ e in
        absurd (refused_not_given fault vs' refusal)

    pub items_back :
        (gaps : List Gap) (had : List Literal) (vs : Values) → items_after fault variables rank_variables (unclosed had) (words_of gaps) ≡ given vs →
        ItemsAre gaps had vs
    unfolding items_after item_after flat_map
    items_back [] had vs e = no_zero [] had (cc e) refl refl (λ ls left taken. taken)
    items_back (g ∷ gaps) had vs e =
        let (vs', first, rest) = bind_given _ _ _ e in
        go (λ had₁ h. items_back gaps had₁ vs h) (item variables g.word) refl vs' first rest
      where
        onto :
            (l : Literal) → g.word ≡ literal_text l → (had₁ : List Literal) →
            ((ls left : List Literal) → TakenBehind had₁ ls left → TakenBehind had (l ∷ ls) left) → ItemsAre gaps had₁ vs → ItemsAre (g ∷ gaps) had vs
        onto l text had₁ taken₁ (no_zero ss had' same count parts taken) =
            no_zero (record { more = g.more; literal = l } ∷ ss) had' same (omega (arith, count))
            (unfold spaced_text in
            (ap (λ (w : List ℕ). item_text g.more w ++ flat_map gap_text gaps) text ∙ ap (λ (t : List ℕ). item_text g.more (literal_text l) ++ t) parts))
            (λ ls left t. taken₁ (literals_of ss ++ ls) left (taken ls left t))
        onto l text had₁ taken₁ (a_zero ss more had' same parts taken) =
            a_zero (record { more = g.more; literal = l } ∷ ss) more had' same
            (unfold spaced_text in
            (ap (λ (w : List ℕ). item_text g.more w ++ flat_map gap_text gaps) text ∙ ap (λ (t : List ℕ). item_text g.more (literal_text l) ++ t) parts
            ∙ sym (append_assoc (item_text g.more (literal_text l)) (flat_map spaced_text ss) (item_text more (ascii "0")))))
            (λ ls left t. taken₁ (literals_of ss ++ ls) left (taken ls left t))

        go :
            ((had₁ : List Literal) → items_after fault variables rank_variables (unclosed had₁) (words_of gaps) ≡ given vs → ItemsAre gaps had₁ vs) →
            (i : Item) → item variables g.word ≡ i → (vs' : Values) → item_after fault rank_variables (unclosed had) (item variables g.word) ≡ given vs' →
            items_after fault variables rank_variables vs' (words_of gaps) ≡ given vs → ItemsAre (g ∷ gaps) had vs
        go further closing i vs' first rest =
            let now-closed : vs' ≡ closed had = cc (sym (ap (item_after fault rank_variables (unclosed had)) i) ∙ first) in
            let (nothing-more, same) = none_behind gaps had vs (subst (λ (x : Values). items_after fault variables rank_variables x (words_of gaps) ≡ given vs) now-closed rest) in
            a_zero [] g.more had same
            (ap (λ (gs : List Gap). gap_text g ++ flat_map gap_text gs) nothing-more ∙ append-nil (gap_text g) ∙ ap (item_text g.more) (closing_back variables g.word i))
            (λ ls left t. t)
        go further (literal l) i vs' first rest =
            let (text, low, high) = literal_text_back variables g.word l i in
            let (had₁, same, taken₁) = one_taken l had vs' (low, high) (sym (ap (item_after fault rank_variables (unclosed had)) i) ∙ first) in
            onto l text had₁ taken₁
            (further had₁ (subst (λ (x : Values). items_after fault variables rank_variables x (words_of gaps) ≡ given vs) same rest))
        go further faulty i vs' first rest = absurd (refused_not_given fault vs' (sym (ap (item_after fault rank_variables (unclosed had)) i) ∙ first))

  -- All that were taken name the rank variables as they may.
  pub taken_names :
      (ls left : List Literal) (α : Assignment) → TakenBehind [] ls left → ((v : ℕ) → 1 ≤ v → v ≤ rank_variables → valued left v ≡ α v) →
      Names variables rank_variables α ls
  unfolding times_named valued
  taken_names ls left α taken told = record {
    within = λ l m. every_member (λ k. (1 ≤ variable_of k) × (variable_of k ≤ variables)) m taken.within;
    once = λ v h. omega (arith, taken.times v h, taken.few v h (omega arith));
    counts = λ v low high. (
      λ e. valued_member v ls (value v low high ∙ e),
      λ m. sym (value v low high) ∙ member_valued v ls m,
    );
  }
    where
      or_false : (b : Bool) → (b || false) ≡ b
      or_false true = refl
      or_false false = refl

      value : (v : ℕ) → 1 ≤ v → v ≤ rank_variables → valued ls v ≡ α v
      value v low high = sym (or_false (valued ls v)) ∙ sym (taken.told v high) ∙ told v low high
