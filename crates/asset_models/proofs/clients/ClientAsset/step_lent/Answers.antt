use Rattle.std.proofs.Common.{refl}
use Rattle.asset_models.specs.Clients.{calls_by}
use Rattle.asset_models.proofs.ClientLemmas.{listed_called}
use Rattle.asset_models.proofs.clients.ClientAsset.step_lent.Goals as goal

pub returns : goal.returns
unfolding calls_by
returns g c = rw (← c.self.view_is) (record {
  calls = listed_called c.args.step.now c.call_lent.result _ _ c.call_lent.ensures.listed;
  asked = c.call_lent.ensures.asked;
  manager = refl;
})
