use Rattle.std.proofs.Common.{◌++◌, ◌∷◌, [], subst, ap}
use Rattle.asset_history.specs.declared.links.Link.{Link}
use Rattle.asset_history.specs.Links.{Links, one_link_more, HaveMore}
use Rattle.asset_history.proofs.ChainLemmas.{more_one}
use Rattle.asset_history.proofs.links.UserLinks.add.Goals as goal

pub returns-clause-added : goal.returns-clause-added
unfolding one_link_more
returns-clause-added c =
    let link : Link = record { node = c.args.node; before = c.args.chain } in
    rw (c.push_reserved.ensures.items) (ap (λ (all : Links). record { links = all.links ++ link ∷ []; room = all.room }) c.self.view_is)

pub returns-clause-more : goal.returns-clause-more
returns-clause-more c =
    let old = c.self.inside.links.items in
    let link : Link = record { node = c.args.node; before = c.args.chain } in
    subst (λ l. HaveMore l c.push_reserved.new.self.items) (ap (λ (all : Links). all.links) c.self.view_is)
    (rw (c.push_reserved.ensures.items) (more_one old link c.self.invariant.earlier))
