use Rattle.std.proofs.Common.{◌≡◌, ◌||◌, false, Some, sym, ap, subst, ◌∙◌, arith}
use Rattle.asset_names.proofs.Common.{always_err}
use Rattle.slab.specs.Slab.{Updates}
use Rattle.asset_permits.specs.Descriptors.{Descriptor, stands, one_covers, same_descriptor, lets, lets_all, opens}
use Rattle.asset_permits.specs.Stored.{asked}
use Rattle.asset_permits.specs.Valid.{descriptors_of, PermitTable, permits_in}
use Rattle.asset_permits.proofs.SlotLemmas.{any_added, stands_again, covers_again, opens_again}
use Rattle.asset_permits.proofs.TableLemmas.{slots_stand, valid_grown, valid_added, tied_inside}
use Rattle.asset_permits.proofs.table.SeatedPermits.add_permit.Goals as goal

pub returns-then-has-clause-stands : goal.returns-then-has-clause-stands
returns-then-has-clause-stands c = λ e.
    stands_again (permits_in c.args.self.now) (asked c.args.sought.now) e (sym c.has.ensures ∙ c.if-has.true)

pub returns-then-has-clause-covers : goal.returns-then-has-clause-covers
returns-then-has-clause-covers c = λ u t x op.
    covers_again (permits_in c.args.self.now) (asked c.args.sought.now) u t x op (sym c.has.ensures ∙ c.if-has.true)

pub returns-then-has-clause-opens : goal.returns-then-has-clause-opens
returns-then-has-clause-opens c = λ u x op.
    opens_again (permits_in c.args.self.now) (asked c.args.sought.now) u x op (sym c.has.ensures ∙ c.if-has.true)

pub returns-in_err-reserve_item-clause-unchanged : goal.returns-in_err-reserve_item-clause-unchanged
returns-in_err-reserve_item-clause-unchanged c =
    always_err c.from_residual.result (slots_stand c.self.inside.permits.items c.reserve_item.new.items.items c.reserve_item.ensures.grown.items ∙ ap (λ (v : PermitTable). permits_in v) c.self.view_is)

pub returns-in_err-permit-clause-unchanged : goal.returns-in_err-permit-clause-unchanged
returns-in_err-permit-clause-unchanged c =
    always_err c.from_residual-in_err-permit.result (slots_stand c.self.inside.permits.items c.reserve_item.new.items.items c.reserve_item.ensures.grown.items ∙ ap (λ (v : PermitTable). permits_in v) c.self.view_is)

pub returns-clause-tied : goal.returns-clause-tied
returns-clause-tied c =
    let inside = c.self.inside in
    let seats = c.args.seats.now in
    let sought = c.args.sought.now in
    let more = c.reserve_item.new.items in
    let d : Descriptor = asked sought in
    let tied = tied_inside inside.permits inside.marks.size c.args.self.now seats c.self.view_is c.requires.tied in
    let valid = valid_grown inside.permits more seats inside.marks.size inside.marks.size tied c.reserve_item.ensures.grown (omega arith) in
    let put : Updates more.items c.insert.new.self.items c.insert.result (Some d) = subst (λ (e : Descriptor). Updates more.items c.insert.new.self.items c.insert.result (Some e)) c.in_ok-permit.ensures c.insert.ensures.items in
    let none : stands (descriptors_of more.items) d ≡ false =
    ap (λ ds. stands ds d) (slots_stand inside.permits.items more.items c.reserve_item.ensures.grown.items ∙ ap (λ (v : PermitTable). permits_in v) c.self.view_is) ∙ sym c.has.ensures ∙ c.if-has.false
    in
    valid_added more c.insert.new.self seats inside.marks.size d c.insert.result sought.giver.at sought.taker.at valid c.requires.sit.0 c.requires.sit.1 put none c.insert.ensures.rows c.insert.ensures.columns c.laws.ensures.crossed

pub returns-clause-stands : goal.returns-clause-stands
unfolding stands
returns-clause-stands c = λ e.
    let inside = c.self.inside in
    let permits = c.reserve_item.new.items.items in
    let d : Descriptor = asked c.args.sought.now in
    let put : Updates permits c.insert.new.self.items c.insert.result (Some d) = subst (λ (e : Descriptor). Updates permits c.insert.new.self.items c.insert.result (Some e)) c.in_ok-permit.ensures c.insert.ensures.items in
    any_added (λ (k : Descriptor). same_descriptor k e) permits c.insert.new.self.items c.insert.result d c.insert.ensures.vacant put
    ∙ ap (λ ds. stands ds e || same_descriptor d e) (slots_stand inside.permits.items permits c.reserve_item.ensures.grown.items ∙ ap (λ (v : PermitTable). permits_in v) c.self.view_is)

pub returns-clause-covers : goal.returns-clause-covers
unfolding one_covers
returns-clause-covers c = λ u t x op.
    let inside = c.self.inside in
    let permits = c.reserve_item.new.items.items in
    let d : Descriptor = asked c.args.sought.now in
    let put : Updates permits c.insert.new.self.items c.insert.result (Some d) = subst (λ (e : Descriptor). Updates permits c.insert.new.self.items c.insert.result (Some e)) c.in_ok-permit.ensures c.insert.ensures.items in
    any_added (lets u t x op) permits c.insert.new.self.items c.insert.result d c.insert.ensures.vacant put
    ∙ ap (λ ds. one_covers ds u t x op || lets u t x op d) (slots_stand inside.permits.items permits c.reserve_item.ensures.grown.items ∙ ap (λ (v : PermitTable). permits_in v) c.self.view_is)

pub returns-clause-opens : goal.returns-clause-opens
unfolding opens
returns-clause-opens c = λ u x op.
    let inside = c.self.inside in
    let permits = c.reserve_item.new.items.items in
    let d : Descriptor = asked c.args.sought.now in
    let put : Updates permits c.insert.new.self.items c.insert.result (Some d) = subst (λ (e : Descriptor). Updates permits c.insert.new.self.items c.insert.result (Some e)) c.in_ok-permit.ensures c.insert.ensures.items in
    any_added (lets_all u x op) permits c.insert.new.self.items c.insert.result d c.insert.ensures.vacant put
    ∙ ap (λ ds. opens ds u x op || lets_all u x op d) (slots_stand inside.permits.items permits c.reserve_item.ensures.grown.items ∙ ap (λ (v : PermitTable). permits_in v) c.self.view_is)
