use Rattle.std.proofs.Common.{sym, ◌∙◌}
use Rattle.asset_chains.specs.Linked.{seen}
use Rattle.asset_chains.specs.Slots.{links_of}
use Rattle.asset_chains.proofs.Laws.{unlinks}
use Rattle.asset_chains.proofs.SlotLemmas.{there_kept, there_from, home_positive}
use Rattle.asset_chains.proofs.CrossedLemmas.{home_is}
use Rattle.asset_chains.proofs.lines.shift.Goals as goal

pub join-requires-clause-there : goal.join-requires-clause-there
join-requires-clause-there g c =
    there_kept c.args.slots.now c.leave.new.slots c.leave.ensures.values c.args.key
    ∙ there_from c.args.side c.args.slots.now c.args.key (home_positive c.args.side c.args.slots.now c.args.heads.now.items c.requires.lined c.args.key c.requires.there)

pub join-requires-clause-few : goal.join-requires-clause-few
join-requires-clause-few g c = λ k there. c.requires.few k (sym (there_kept c.args.slots.now c.leave.new.slots c.leave.ensures.values k) ∙ there)

pub join-requires-clause-free : goal.join-requires-clause-free
join-requires-clause-free g c =
    let home = home_is c.args.side c.args.slots.now c.args.heads.now.items c.requires.lined c.args.key c.requires.there in
    (unlinks home.0 c.args.key (seen (links_of c.args.side c.args.slots.now) c.args.heads.now.items) (seen (links_of c.args.side c.leave.new.slots) c.leave.new.heads.items) home.1 c.leave.ensures.unlinked).home
