use Rattle.std.proofs.Common.{refl}
use Rattle.dsr_run.proofs.Lemmas.{all_agree, all_right}
use Rattle.dsr_world.proofs.playing.Playing.into_played.Goals as goal

pub returns : goal.returns
returns c =
    let stage = c.self.inside.stage in
    let is = c.steps_are_a_run.ensures in
    let few = rw c.shape.ensures at c.n-n.ensures.allowed.few_traitors in
    rw (← c.self.view_is) (record {
      same = refl;
      run = is;
      agreement = all_agree stage.shape stage.run few is;
      right = all_right stage.shape few stage.run is;
    })
