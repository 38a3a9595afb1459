use Rattle.asset_objects.proofs.seated.SeatedObjects.may_sit.Goals as goal

pub returns : goal.returns
returns c = rw (← c.self.view_is) (record { sits = c.may_sit.ensures.sits })
