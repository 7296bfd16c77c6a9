-- The next term of a step whose place was found: how many bytes it has, and that it stands where they are laid. Assumes nothing.
use Prim.Native.Nat.{ℕ, ◌+◌, ◌*◌, ◌-◌, ◌<◌, ◌≤◌}
use mathlib.Core.List.{List, ◌++◌, append-nil}
use mathlib.Core.Option.{some}
use mathlib.Core.Path.{◌≡◌, sym, ap, ap₂, subst, ◌∙◌}
use native.Mathlib.Omega.{arith}
use lib.Dec.{T}
use lib.ListN.{length, take, drop, length-append, length-drop}
use lib.Seq.{drop-length, length-take-le, take-length}
use Rattle.term.specs.Term.{Term, size, over}
use Rattle.term.specs.Replacement.{Replacement, replace}
use Rattle.term.specs.Prefix.{prefix}
use Rattle.term.specs.At.{At}
use Rattle.term.proofs.At.{at_unique, at_end_lem, at_within}
use Rattle.term.proofs.PrefixAt.{prefix_length, at_over, prefix_at}
use Rattle.book.specs.Book.{Rule}
use Rattle.book.specs.Entries.{places_of}
use Rattle.book.specs.declared.Book.{Book as Places}
use Rattle.steps.specs.Fits.{matching}
use Rattle.steps.specs.Step.{rule_of, applied, step_of}
use Rattle.matching.specs.FirstPlace.{StepAt}
use Rattle.building.specs.Right.{Held, RightAt, Within, Built}
use Rattle.stepping.specs.Stepped.{NextIn}
use Rattle.building.specs.declared.Place.{Place}
use Rattle.stepping.proofs.RulesAt.{right_end, RulesAt}
use Rattle.steps.proofs.OwnStep.{own_step_is_free}
use Rattle.steps.proofs.NextStep.{lowest_declared, taken_step}
use Rattle.building.proofs.RightSide.{few_bytes}
use Rattle.steps.proofs.StaysOver.{Good, step_over, numbered}

-- The rules that stand in a book keep terms over its symbols.
rules_good : {book : List ℕ} {places : Places} {rules : List Rule} → RulesAt book places rules → (i : ℕ) → i < length rules → Good places.arities (rule_of rules i)
rules_good stand i p = record { right_over = at_over (stand.rights i p); no_new_lem = stand.no_new i p }

pub next_over :
    {book : List ℕ} {places : Places} {rules : List Rule} (t next : Term) → RulesAt book places rules → T (over places.arities t) →
    step_of rules t ≡ some next → T (over places.arities next)
next_over {places = places} {rules = rules} t next stand o e =
    step_over places.arities (numbered (Good places.arities) rules (rules_good stand)) ((own_step_is_free rules t).0 next e) o

-- The step at the place that was found, and the next term in bytes.
pub record NextAt (bytes arities : List ℕ) (rules : List Rule) (t : Term) (place : Place) : Type 0 where
  pub at_place : StepAt bytes arities rules t place
  pub next : Term
  pub is_next : step_of rules t ≡ some next
  pub next_bytes :
      prefix next ≡ take place.at bytes ++ (prefix (applied (rule_of rules place.fit.rule) at_place.subterm) ++ drop place.end bytes)

pub next_at :
    {bytes arities : List ℕ} {rules : List Rule} {t : Term} {place : Place} → At bytes arities 0 t (length bytes) → StepAt bytes arities rules t place →
    NextAt bytes arities rules t place
next_at {bytes} {arities} {rules} {t} {place} whole step_at =
    let (next, is_next, from) = taken_step bytes arities rules (record { rule = place.fit.rule; place = place.at }) whole step_at.is_taken in
    let (subterm, behind) = at_unique from.stands step_at.stands in
    record {
      at_place = step_at;
      next = next;
      is_next = is_next;
      next_bytes =
          sym (ap (λ (w : List ℕ). prefix next ++ w) (drop-length bytes) ∙ append-nil (prefix next))
          ∙ from.next_bytes
          ∙ ap₂
          (λ (s : Term) (e : ℕ). take place.at bytes ++ (prefix (applied (rule_of rules place.fit.rule) s) ++ drop e bytes)) subterm behind;
    }

module _
    {book bytes : List ℕ} {places : Places} {rules : List Rule} {t : Term} {place : Place} (stand : RulesAt book places rules)
    (step_at : NextAt bytes places.arities rules t place) where
  abbrev i : ℕ
  i = place.fit.rule

  abbrev declared : i < length rules
  declared = lowest_declared rules step_at.at_place.subterm i step_at.at_place.applies.is_lowest

  pub rule_small : place.fit.rule < 32
  rule_small = omega (arith, declared, stand.lefts.few)

  pub right_within : right_end places place.fit.rule ≤ length book
  right_within = at_within (stand.rights i declared)

  -- The match replaces the right side's variables.
  abbrev pub under_match : Replacement
  under_match = matching (rule_of rules i).left step_at.at_place.subterm

  pub right_held : Held bytes places.arities place.fit.table (rule_of rules place.fit.rule).right under_match
  right_held = record {
    small = λ x o. stand.lefts.variables i declared x (stand.no_new i declared x o);
    terms = λ x o. step_at.at_place.applies.variables x (stand.no_new i declared x o);
  }

  pub right_stands : At book places.arities (places_of places place.fit.rule).right.at (rule_of rules place.fit.rule).right (right_end places place.fit.rule)
  right_stands = stand.rights i declared

  pub right_there :
      RightAt book bytes places.arities place.fit.table (places_of places place.fit.rule).right.at (right_end places place.fit.rule)
  right_there = record {
    right = (rule_of rules i).right;
    replacement = under_match;
    stands = right_stands;
    held = right_held;
    nodes = stand.nodes i declared;
  }

  pub place_within : Within bytes place
  place_within = record { ordered = omega (arith, at_end_lem step_at.at_place.stands); inside = at_within step_at.at_place.stands }

  pub made_few : length bytes ≤ 512 → length (prefix (replace under_match (rule_of rules place.fit.rule).right)) ≤ 5120
  made_few short = few_bytes right_held short (stand.nodes i declared)

  -- Two bytes a node of the next term.
  pub next_length :
      2 * size step_at.next ≡ place.at + (length (prefix (replace under_match (rule_of rules place.fit.rule).right)) + (length bytes - place.end))
  unfolding applied
  next_length =
      let made = prefix (applied (rule_of rules i) step_at.at_place.subterm) in
      let behind = drop place.end bytes in
      sym (prefix_length step_at.next)
      ∙ ap length step_at.next_bytes
      ∙ length-append (take place.at bytes) (made ++ behind)
      ∙ omega (
        arith,
        length-take-le place.at bytes (omega (arith, place_within.ordered, place_within.inside)),
        length-append made behind,
        length-drop place.end bytes,
      )

  -- Once built, it stands in the buffer.
  pub next_in :
      {left end : ℕ} {before buffer : List ℕ} → 0 < left → size step_at.next ≤ 256 → At bytes places.arities 0 t (length bytes) →
      Built bytes place end before buffer (replace under_match (rule_of rules place.fit.rule).right) → NextIn places.arities rules t left end before buffer
  unfolding applied
  next_in {left} {end} {before} {buffer} remain nodes whole built =
      let next = step_at.next in
      let long : end ≡ 2 * size next = omega (arith, built.ends, next_length) in
      let laid : take end buffer ≡ prefix next = built.built ∙ sym step_at.next_bytes in
      let all : take (length (prefix next)) (take end buffer) ≡ prefix next = ap (take (length (prefix next))) laid ∙ take-length (prefix next) in
      let there : At (take end buffer) places.arities 0 next (0 + 2 * size next) =
      prefix_at next 0 (next_over t next stand (at_over whole) step_at.is_next) all in
      record {
        remain = remain;
        next = next;
        is_next = step_at.is_next;
        nodes = nodes;
        stands = subst (λ (n : ℕ). At (take end buffer) places.arities 0 next n) (omega arith) there;
        kept = built.kept;
      }
