-- The order's test at the places that a comparison is given: the arguments behind a root, the first of several arguments and the others
-- behind it, and what each return answers. Assumes nothing.
use Prim.Native.Nat.{ℕ, suc, ◌+◌, ◌-◌, ◌≤◌, ◌<◌}
use mathlib.Core.Bool.{Bool, true, false}
use mathlib.Core.List.{List}
use mathlib.Core.Path.{◌≡◌, sym, ap, subst, subst₂, ◌∙◌}
use native.Mathlib.Omega.{arith}
use lib.ListN.{length, get_or}
use Rattle.std.specs.Prelude.{Some, None}
use Rattle.std.proofs.lemmas.Option.{same_Some, none-some}
use Rattle.term.specs.Term.{Term, Args, var, app, cons, size, sizes, count, same}
use Rattle.term.specs.Root.{symbol_of, arguments}
use Rattle.term.specs.At.{At, ArgsAt, Standing}
use Rattle.term.proofs.At.{at_arguments, args_count, args_first, args_none, size_positive, symbol_declared, arguments_of_symbol}
use Rattle.order.specs.Precedence.{above}
use Rattle.order.specs.Test.{case3_holds, exceeds}
use Rattle.comparing.specs.Compared.{RootIs, RootAt, ArgumentsAt, ListsAt, ExceedsAt, SomeReachesAt, ExceedsEveryAt, DecreasesAt}
use Rattle.comparing.specs.declared.Root.{Root}
use Rattle.comparing.proofs.Nodes.{nodes, nodes_are, nodes_of_one, size_root}
use Rattle.comparing.proofs.Stepwise.{some_none, some_identical_lem, some_exceeds, some_later, every_none, every_later, every_fails, decrease_none, decrease_later, decrease_here, decrease_fails, variable_exceeds_nothing, root_reaches, root_variable, root_above, root_equal, root_fails}

pub rooted : (t : Term) {f : ℕ} → Some f ≡ symbol_of t → t ≡ app f (arguments t)
unfolding symbol_of arguments
rooted (var x) {f} p = absurd (none-some f (sym p))
rooted (app g ts) {f} p = ap (λ (i : ℕ). app i ts) (same_Some g f (sym p))

-- The first of several terms, which ends where the others begin.
pub record Parted (bytes arities : List ℕ) (later u behind : ℕ) (ts : Args) (e : ℕ) : Type 0 where
  pub first : Term
  pub others : Args
  pub parts : ts ≡ cons first others
  pub first_stands : At bytes arities u first behind
  pub others_stand : ArgsAt bytes arities later behind others e

module _ (bytes arities : List ℕ) where
  -- Where whatever term stands at u ends, and whether the terms at two places are identical.
  abbrev pub EndAt : (u behind : ℕ) → Type 0
  EndAt u behind = (t : Term) (e : ℕ) → At bytes arities u t e → behind ≡ e

  abbrev pub SameAt : (s t : ℕ) → Bool → Type 0
  SameAt s t r = (a b : Term) (d e : ℕ) → At bytes arities s a d → At bytes arities t b e → r ≡ same a b

module _ {bytes arities : List ℕ} where
  pub parted :
      {many later u behind e : ℕ} {ts : Args} → ArgsAt bytes arities many u ts e → later + 1 ≡ many → EndAt bytes arities u behind →
      Parted bytes arities later u behind ts e
  parted {many} {later} {u} {behind} {e} h p ends =
      let parts = args_first h (omega arith) in
      let is = sym (ends parts.first parts.behind parts.first_stands) in
      let fewer : many - 1 ≡ later = omega arith in
      record {
        first = parts.first;
        others = parts.others;
        parts = parts.parted;
        first_stands = subst (λ (i : ℕ). At bytes arities u parts.first i) is parts.first_stands;
        others_stand = subst₂ (λ (i j : ℕ). ArgsAt bytes arities i j parts.others e) fewer is parts.others_stand;
      }

  -- What the symbol and the number of arguments at a place make of its root.
  pub root_is :
      {u f many : ℕ} → Standing bytes arities u → length arities ≡ 16 → ((t : Term) (e : ℕ) → At bytes arities u t e → Some f ≡ symbol_of t) →
      ((t : Term) (e : ℕ) → At bytes arities u t e → many ≡ count (arguments t)) →
      RootIs bytes arities u record { symbol = f; many = many; first = u + 2 }
  root_is {u} {f} {many} here sixteen symbol told =
      let root = sym (symbol here.term here.behind here.stands) in
      record {
        declared = omega (arith, symbol_declared here.stands root);
        arity = told here.term here.behind here.stands ∙ arguments_of_symbol here.stands root;
        parts = λ t e h. record {
          parted = rooted t (symbol t e h);
          under = subst (λ (i : ℕ). ArgsAt bytes arities i (u + 2) (arguments t) e) (sym (told t e h)) (at_arguments h);
        };
      }

  -- The arguments under a root.
  abbrev pub under : {u : ℕ} {root : Root} → RootIs bytes arities u root → Standing bytes arities u → ArgumentsAt bytes arities root.many root.first
  under root side = record {
    terms = arguments side.term;
    behind = side.behind;
    stand = (root.parts side.term side.behind side.stands).under;
  }

  pub under_fewer :
      {u : ℕ} {root : Root} → RootIs bytes arities u root → Standing bytes arities u → nodes bytes arities 1 u ≡ suc (nodes bytes arities root.many root.first)
  under_fewer root side = nodes_of_one side.stands ∙ size_root side.term ∙ ap suc (sym (nodes_are (under root side).stand))

  -- The first of several arguments and the others.
  pub first_standing : {many u : ℕ} → ArgumentsAt bytes arities many u → 0 < many → Standing bytes arities u
  first_standing a p =
      let parts = args_first a.stand p in
      record { term = parts.first; behind = parts.behind; stands = parts.first_stands }

  abbrev pub others :
      {many later u behind : ℕ} → ArgumentsAt bytes arities many u → later + 1 ≡ many → EndAt bytes arities u behind → ArgumentsAt bytes arities later behind
  others a p ends = let parts = parted a.stand p ends in record { terms = parts.others; behind = a.behind; stand = parts.others_stand }

  pub first_and_others :
      {many u behind : ℕ} (later : ℕ) → ArgumentsAt bytes arities many u → later + 1 ≡ many → EndAt bytes arities u behind →
      (1 ≤ nodes bytes arities 1 u) × (nodes bytes arities many u ≡ nodes bytes arities 1 u + nodes bytes arities later behind)
  unfolding size
  first_and_others later a p ends =
      let parts = parted a.stand p ends in
      let one = nodes_of_one parts.first_stands in
      let rest = nodes_are parts.others_stand in
      let some = size_positive parts.first in
      (omega arith, nodes_are a.stand ∙ ap sizes parts.parts ∙ omega arith)

  pub first_fewer : {many u : ℕ} → ArgumentsAt bytes arities many u → 0 < many → nodes bytes arities 1 u ≤ nodes bytes arities many u
  unfolding size
  first_fewer a p =
      let parts = args_first a.stand p in
      let whole : sizes a.terms ≡ size parts.first + sizes parts.others = ap sizes parts.parted in
      omega (arith, nodes_of_one parts.first_stands, nodes_are a.stand)

  -- Both lists without their first, and how many nodes there are.
  pub later_lists :
      {s many later ss ts s-later t-later : ℕ} → ListsAt bytes arities s many ss ts → later + 1 ≡ many → EndAt bytes arities ss s-later →
      EndAt bytes arities ts t-later → ListsAt bytes arities s later s-later t-later
  unfolding size
  later_lists lists p left right =
      let parts = parted lists.lefts.stand p left in
      let fewer : sizes lists.lefts.terms ≡ size parts.first + sizes parts.others = ap sizes parts.parts in
      record {
        term = lists.term;
        lefts = others lists.lefts p left;
        rights = others lists.rights p right;
        within = omega (arith, lists.within);
      }

  pub lists_within : {s many ss ts : ℕ} → ListsAt bytes arities s many ss ts → nodes bytes arities many ss ≤ nodes bytes arities 1 s
  lists_within lists = omega (arith, nodes_are lists.lefts.stand, nodes_of_one lists.term.stands, lists.within)

  -- Roots with one symbol have as many arguments.
  module _ {s t : ℕ} {left right : Root} (l : RootIs bytes arities s left) (r : RootIs bytes arities t right) (alike : left.symbol ≡ right.symbol) where
    pub as_many : right.many ≡ left.many
    as_many = r.arity ∙ ap (λ (i : ℕ). get_or arities i 0) (sym alike) ∙ sym l.arity

    pub lists : Standing bytes arities s → Standing bytes arities t → ListsAt bytes arities s left.many left.first right.first
    lists a b = record {
      term = a;
      lefts = under l a;
      rights = subst (λ (i : ℕ). ArgumentsAt bytes arities i right.first) as_many (under r b);
      within = omega (arith, size_root a.term);
    }

  module _ (ranks : List ℕ) where
    -- What a comparison at two roots answers.
    pub at_a_variable : {s t : ℕ} → RootAt bytes arities s None → ExceedsAt bytes arities ranks s t false
    at_a_variable none a b d e ha hb = sym (variable_exceeds_nothing ranks a b (none a d ha))

    module _ {s t : ℕ} {left : Root} (l : RootIs bytes arities s left) where
      pub reaching : SomeReachesAt bytes arities ranks left.many left.first t true → ExceedsAt bytes arities ranks s t true
      reaching some a b d e ha hb =
          let p = l.parts a d ha in
          sym (root_reaches ranks p.parted b (sym (some (arguments a) b d e p.under hb)))

      module _ (none : SomeReachesAt bytes arities ranks left.many left.first t false) where
        none_at_all : {a b : Term} {d e : ℕ} → At bytes arities s a d → At bytes arities t b e → case3_holds (exceeds ranks) (arguments a) b ≡ false
        none_at_all {a} {b} {d} {e} ha hb = sym (none (arguments a) b d e (l.parts a d ha).under hb)

        pub past_a_variable : RootAt bytes arities t None → ExceedsAt bytes arities ranks s t false
        past_a_variable right a b d e ha hb = sym (root_variable ranks (l.parts a d ha).parted b (right b e hb) (none_at_all ha hb))

        module _ {right : Root} (r : RootIs bytes arities t right) where
          pub above_it :
              {answer : Bool} → true ≡ above ranks left.symbol right.symbol → ExceedsEveryAt bytes arities ranks s right.many right.first answer →
              ExceedsAt bytes arities ranks s t answer
          above_it higher every a b d e ha hb =
              let p = l.parts a d ha in
              let q = r.parts b e hb in
              every a (arguments b) d e ha q.under ∙ sym (root_above ranks p.parted q.parted (none_at_all ha hb) (sym higher))

          module _ (higher : false ≡ above ranks left.symbol right.symbol) where
            pub beside_it :
                {answer : Bool} → left.symbol ≡ right.symbol → DecreasesAt bytes arities ranks s left.many left.first right.first answer →
                ExceedsAt bytes arities ranks s t answer
            beside_it alike decreases a b d e ha hb =
                let p = l.parts a d ha in
                let q = r.parts b e hb in
                decreases a (arguments a) (arguments b) d d e ha p.under
                (subst (λ (i : ℕ). ArgsAt bytes arities i right.first (arguments b) e) (as_many l r alike) q.under)
                ∙ sym (root_equal ranks p.parted q.parted (none_at_all ha hb) (sym higher) alike)

            pub below_it : (left.symbol ≡ right.symbol → ⊥) → ExceedsAt bytes arities ranks s t false
            below_it other a b d e ha hb =
                sym (root_fails ranks (l.parts a d ha).parted (r.parts b e hb).parted (none_at_all ha hb) (sym higher) other)

    -- (3), argument by argument.
    pub none_reaches : {many ss t : ℕ} → many ≡ 0 → SomeReachesAt bytes arities ranks many ss t false
    none_reaches p a b d e ha hb = sym (some_none ranks (args_none ha p).0 b)

    module _ {many ss t : ℕ} (p : 0 < many) where
      pub first_identical : SameAt bytes arities ss t true → SomeReachesAt bytes arities ranks many ss t true
      first_identical same a b d e ha hb =
          let parts = args_first ha p in
          sym (some_identical_lem ranks parts.parted b (sym (same parts.first b parts.behind e parts.first_stands hb)))

      pub first_exceeds : ExceedsAt bytes arities ranks ss t true → SomeReachesAt bytes arities ranks many ss t true
      first_exceeds more a b d e ha hb =
          let parts = args_first ha p in
          sym (some_exceeds ranks parts.parted b (sym (more parts.first b parts.behind e parts.first_stands hb)))

    pub later_reaches :
        {many later ss t behind : ℕ} {r : Bool} → later + 1 ≡ many → EndAt bytes arities ss behind → SameAt bytes arities ss t false →
        ExceedsAt bytes arities ranks ss t false → SomeReachesAt bytes arities ranks later behind t r → SomeReachesAt bytes arities ranks many ss t r
    later_reaches {behind = behind} p ends same less rest a b d e ha hb =
        let parts = parted ha p ends in
        let first = parts.first in
        rest parts.others b d e parts.others_stand hb
        ∙ sym (some_later ranks parts.parts b (sym (same first b behind e parts.first_stands hb)) (sym (less first b behind e parts.first_stands hb)))

    -- s exceeds every argument.
    pub every_of_none : {s many ts : ℕ} → many ≡ 0 → ExceedsEveryAt bytes arities ranks s many ts true
    every_of_none p a b d e ha hb = sym (every_none ranks (args_none hb p).0 a)

    pub first_fails : {s many ts : ℕ} → 0 < many → ExceedsAt bytes arities ranks s ts false → ExceedsEveryAt bytes arities ranks s many ts false
    first_fails p less a b d e ha hb =
        let parts = args_first hb p in
        sym (every_fails ranks parts.parted a (sym (less a parts.first d parts.behind ha parts.first_stands)))

    pub later_every :
        {s many later ts behind : ℕ} {r : Bool} → later + 1 ≡ many → EndAt bytes arities ts behind → ExceedsAt bytes arities ranks s ts true →
        ExceedsEveryAt bytes arities ranks s later behind r → ExceedsEveryAt bytes arities ranks s many ts r
    later_every {behind = behind} p ends more rest a b d e ha hb =
        let parts = parted hb p ends in
        rest a parts.others d e ha parts.others_stand
        ∙ sym (every_later ranks parts.parts a (sym (more a parts.first d behind ha parts.first_stands)))

    -- (1), at the first argument that differs.
    pub none_decreases : {s many ss ts : ℕ} → many ≡ 0 → DecreasesAt bytes arities ranks s many ss ts false
    none_decreases p c a b d e h hc ha hb = sym (decrease_none ranks (args_none ha p).0 c b)

    module _ {s many later ss ts : ℕ} (p : later + 1 ≡ many) where
      pub first_alike :
          {s-later t-later : ℕ} {r : Bool} → EndAt bytes arities ss s-later → EndAt bytes arities ts t-later → SameAt bytes arities ss ts true →
          DecreasesAt bytes arities ranks s later s-later t-later r → DecreasesAt bytes arities ranks s many ss ts r
      first_alike {s-later} {t-later} left right same rest c a b d e h hc ha hb =
          let as' = parted ha p left in
          let bs = parted hb p right in
          rest c as'.others bs.others d e h hc as'.others_stand bs.others_stand
          ∙ sym (decrease_later ranks as'.parts bs.parts c (sym (same as'.first bs.first s-later t-later as'.first_stands bs.first_stands)))

      module _ (differ : SameAt bytes arities ss ts false) where
        pub first_decreases :
            {t-later : ℕ} {r : Bool} → EndAt bytes arities ts t-later → ExceedsAt bytes arities ranks ss ts true →
            ExceedsEveryAt bytes arities ranks s later t-later r → DecreasesAt bytes arities ranks s many ss ts r
        first_decreases {t-later} right more every c a b d e h hc ha hb =
            let as' = args_first ha (omega arith) in
            let bs = parted hb p right in
            let counts : count as'.others ≡ count bs.others = omega (arith, args_count as'.others_stand, args_count bs.others_stand) in
            every c bs.others d h hc bs.others_stand
            ∙ sym
            (decrease_here ranks as'.parted bs.parts c (sym (differ as'.first bs.first as'.behind t-later as'.first_stands bs.first_stands))
            (sym (more as'.first bs.first as'.behind t-later as'.first_stands bs.first_stands)) counts)

    pub first_does_not :
        {s many ss ts : ℕ} → 0 < many → SameAt bytes arities ss ts false → ExceedsAt bytes arities ranks ss ts false →
        DecreasesAt bytes arities ranks s many ss ts false
    first_does_not p differ less c a b d e h hc ha hb =
        let as' = args_first ha p in
        let bs = args_first hb p in
        sym
        (decrease_fails ranks as'.parted bs.parted c (sym (differ as'.first bs.first as'.behind bs.behind as'.first_stands bs.first_stands))
        (sym (less as'.first bs.first as'.behind bs.behind as'.first_stands bs.first_stands)))
