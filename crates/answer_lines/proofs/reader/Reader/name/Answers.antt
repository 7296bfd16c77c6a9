-- `answer_lines::reader::Reader::name` meets its contract.
use mathlib.Core.Path.{sym, ◌∙◌}
use Rattle.std.proofs.lemmas.List.{set-get_or}
use Rattle.answer_lines.proofs.Naming.{other_variable, named_twice, named_once}
use Rattle.answer_lines.proofs.reader.Reader.name.Goals as goal

pub returns-then-self-v-clause-told : goal.returns-then-self-v-clause-told
returns-then-self-v-clause-told c = λ fault l ls var s held. other_variable fault _ l ls var held c.if-self-v.true

pub returns-then-is_some-clause-told : goal.returns-then-is_some-clause-told
returns-then-is_some-clause-told c =
    λ fault l ls var s held.
    named_twice fault _ l ls var held c.requires c.args.self.now.room c.if-self-v.false _ _ _ (sym c.is_some.ensures ∙ c.if-is_some.true)

pub returns-clause-told : goal.returns-clause-told
returns-clause-told c =
    λ fault l ls var s held.
    rw set-get_or (named_once fault _ l ls var held c.requires c.args.self.now.room c.if-self-v.false s (sym c.is_some.ensures ∙ c.if-is_some.false))
