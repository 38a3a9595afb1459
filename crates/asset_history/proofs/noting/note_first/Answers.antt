use Rattle.std.proofs.Common.{◌≡◌, length, refl, ap, subst, ◌∙◌, arith}
use Rattle.std.specs.Prelude.{nat_eq}
use Rattle.indexmap.specs.IndexMap.{get}
use Rattle.asset_names.specs.Operations.{exists}
use Rattle.asset_names.specs.Steps.{applied}
use Rattle.asset_history.specs.Kept.{SayUsers}
use Rattle.asset_history.specs.Uses.{opens, operates}
use Rattle.asset_history.specs.Users.{AreSaid}
use Rattle.asset_history.proofs.LabelLemmas.{joined_none, joined_trans}
use Rattle.asset_history.proofs.noting.note_first.Goals as goal

pub entries-init : goal.entries-init
unfolding AreSaid opens operates applied
entries-init c = record {
  joined = joined_none c.args.entries.now.entries c.args.groups.now;
  there = λ x h. c.note_objects.ensures.there x (ap (λ l. exists l x) c.opening.ensures.given ∙ h);
  few = omega (arith, ap length c.requires.unlinked);
  room = refl;
  said = λ x. rw (c.note_objects.ensures.nobody x) (λ u. refl);
}

pub note_entry-requires-clause-named : goal.note_entry-requires-clause-named
note_entry-requires-clause-named c = c.entries.invariant.joined.names ∙ c.requires.named

pub note_entry-requires-clause-there : goal.note_entry-requires-clause-there
note_entry-requires-clause-there c = c.entries.invariant.there

pub note_entry-requires-clause-links : goal.note_entry-requires-clause-links
note_entry-requires-clause-links c = omega (arith, c.entries.invariant.few, c.entries.invariant.room, c.requires.links, c.entries-test.true)

pub note_entry-requires-clause-said : goal.note_entry-requires-clause-said
note_entry-requires-clause-said c = c.entries.invariant.said

pub entries-preserved : goal.entries-preserved
entries-preserved c = record {
  joined = joined_trans c.args.entries.now.entries c.args.groups.now c.entries.groups c.note_entry.new.groups c.entries.invariant.joined c.note_entry.ensures.joined;
  there = c.note_entry.ensures.there;
  few = omega (arith, c.note_entry.ensures.few, c.entries.invariant.few);
  room = c.note_entry.ensures.room ∙ c.entries.invariant.room;
  said = c.note_entry.ensures.said;
}

pub returns-clause-joined : goal.returns-clause-joined
returns-clause-joined c = c.entries.invariant.joined

pub returns-clause-there : goal.returns-clause-there
returns-clause-there c = c.entries.invariant.there

pub returns-clause-few : goal.returns-clause-few
returns-clause-few c = omega (arith, c.entries.invariant.few, c.entries-test.false)

pub returns-clause-room : goal.returns-clause-room
returns-clause-room c = c.entries.invariant.room

pub returns-clause-said : goal.returns-clause-said
returns-clause-said c =
    let whole : c.entries.i ≡ c.args.index = omega arith in
    subst (λ i. SayUsers c.entries.groups c.entries.users.links.links c.args.entries.now.entries i (get nat_eq c.entries.users.found)) whole c.entries.invariant.said
