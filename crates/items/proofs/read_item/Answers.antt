-- `items::read_item` meets its contract: the closing 0, a minus, or none.
use Rattle.std.proofs.Common.{◌≡◌, ◌<◌, length, get_or, arith}
use mathlib.Core.Path.{refl, sym, ◌∙◌}
use Rattle.clauses.specs.Cnf.{is, is_not}
use Rattle.items.specs.declared.Item.TheVariants.{Is, IsNot}
use Rattle.items.proofs.OneItem.{closing_word, minus, plain, read_signed}
use Rattle.items.proofs.read_item.Goals as goal
use Rattle.items.proofs.read_item.Goals.{in_default-via-then-word-lt1, in_default-via-else-word-lt1+in_default-1}

pub returns-then-same : goal.returns-then-same
returns-then-same c = closing_word _ _ (sym c.same.ensures ∙ c.if-same.true)

pub returns-in-45 : goal.returns-in-45
returns-in-45 c =
    read_signed _ is_not (λ v. IsNot v) (λ v. refl) _ _ _ c.number_within.ensures c.map.ensures.cases
    ∙ sym (minus _ _ (omega arith) (omega arith))

pub returns-in_default : goal.returns-in_default
returns-in_default c =
    read_signed _ is (λ v. Is v) (λ v. refl) _ _ _ c.number_within-in_default.ensures c.map-in_default.ensures.cases
    ∙ sym (plain _ _ (sym c.same.ensures ∙ c.if-same.false) no_minus)
  where
    no_minus : 0 < length c.args.word.now → get_or c.args.word.now 0 0 ≡ 45 → ⊥
    no_minus some e = elim c.in_default.branch [ in_default-via-then-word-lt1 w ↦ grind arith | in_default-via-else-word-lt1+in_default-1 w ↦ grind arith ]
