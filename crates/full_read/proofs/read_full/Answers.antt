-- A read lays its bytes behind those that were laid, and takes them from what the input has left; one that failed takes none.
use Rattle.std.proofs.Common.{rules, length, take, ◌-◌, sym, subst, ◌∙◌, ap}
use Rattle.std.specs.Io.KnownBytes.{Consumes}
use Rattle.std.proofs.KnownBytes.{Consumes-trans, Consumes-kept}
use borrow.Rule.Slice.PartMut.{put_mid}
use Rattle.full_read.proofs.Reading.{kept, grown}
use Rattle.full_read.proofs.read_full.Goals as goal
use Rattle.full_read.proofs.read_full.Goals.{in-Ok, in-Err}

pub loop-preserved : goal.loop-preserved
loop-preserved g c =
    let before = c.loop.invariant in
    let space = put_mid c.loop.done (length c.loop.space - c.loop.done) c.loop.space c.read.new.buf in
    let laid = Consumes (g.R.Read.remaining c.args.input.now) (g.R.Read.remaining c.read.new.self) in
    elim c.match-read.branch [
      | in-Ok w ↦
          let more = grown c.loop.done _ w.in-Ok.n c.loop.space c.read.new.buf before.0 w.in-Ok.ensures.bound.0 in
          (search rules, subst laid (sym (ap (λ n. take n space) w.done-is ∙ more)) (Consumes-trans _ _ _ _ _ before.1 w.in-Ok.ensures.bytes.0))
      | in-Err w ↦
          let same = kept c.loop.done _ c.loop.space c.read.new.buf before.0 in
          (search rules, subst laid (sym (ap (λ n. take n space) w.done-is ∙ same)) (Consumes-kept _ _ _ _ before.1 w.in-Err.ensures.bytes))
    ]
