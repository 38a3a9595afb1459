use Rattle.std.proofs.Common.{◌≡◌, ℕ, List, sym, ◌∙◌, ap, subst}
use Rattle.asset_names.specs.Steps.{applied}
use Rattle.asset_names.specs.Operations.{value}
use Rattle.asset_names.specs.Answers.{IsLegal}
use Rattle.asset_laws.specs.Serial.{serial, CommittedShareNothing}
use Rattle.asset_laws.proofs.SerialLemmas.{serial_legal, serial_values}
use Rattle.asset_entries.specs.Recorded.{Recorded, opened}
use Rattle.asset_serial.specs.Answered.{answered_names, blocks_of}
use Rattle.asset_serial.specs.Following.{entries_in, followed_by}
use Rattle.asset_serial.proofs.BlockLemmas.{serial_copied, serial_follows, serial_followed}
use Rattle.asset_serial.proofs.serializing.serial.Goals as goal

pub copy_blocks-requires : goal.copy_blocks-requires
copy_blocks-requires c =
    let history = c.args.history.now in
    let laws = c.in_ok-blocks.ensures in
    let blocks = laws.blocks ∙ ap (λ (names : List ℕ). blocks_of names history.entries) c.in_ok-committed.ensures in
    rw (c.in_ok-left.ensures, blocks, serial_copied history.opening history.entries laws.legal c.requires) (serial_follows history laws.legal laws.within c.requires)

left_is : (history left new : Recorded) (keys : List ℕ) (blocks : List (List ℕ)) → IsLegal history.opening history.entries → CommittedShareNothing history.entries → left ≡ opened history.opening history.capacity → keys ≡ answered_names history.entries → blocks ≡ blocks_of keys history.entries
    → new ≡ followed_by left (entries_in history.entries blocks) → new ≡ (record history { entries = serial history.entries })
left_is history left new keys blocks legal share empty named are copied =
    copied ∙ ap (λ h. followed_by h (entries_in history.entries blocks)) empty
    ∙ ap (λ b. followed_by (opened history.opening history.capacity) (entries_in history.entries b)) (are ∙ ap (λ (names : List ℕ). blocks_of names history.entries) named)
    ∙ ap (followed_by (opened history.opening history.capacity)) (serial_copied history.opening history.entries legal share)
    ∙ serial_followed history

pub returns-clause-exact : goal.returns-clause-exact
returns-clause-exact c =
    ap (λ h. h.entries) (left_is c.args.history.now c.in_ok-left.left c.copy_blocks.new.left c.in_ok-committed.committed.keys c.in_ok-blocks.blocks c.in_ok-blocks.ensures.legal c.requires c.in_ok-left.ensures c.in_ok-committed.ensures c.in_ok-blocks.ensures.blocks c.copy_blocks.ensures)

pub returns-clause-opening : goal.returns-clause-opening
returns-clause-opening c =
    ap (λ h. h.opening) (left_is c.args.history.now c.in_ok-left.left c.copy_blocks.new.left c.in_ok-committed.committed.keys c.in_ok-blocks.blocks c.in_ok-blocks.ensures.legal c.requires c.in_ok-left.ensures c.in_ok-committed.ensures c.in_ok-blocks.ensures.blocks c.copy_blocks.ensures)

pub returns-clause-room : goal.returns-clause-room
returns-clause-room c =
    ap (λ h. h.capacity) (left_is c.args.history.now c.in_ok-left.left c.copy_blocks.new.left c.in_ok-committed.committed.keys c.in_ok-blocks.blocks c.in_ok-blocks.ensures.legal c.requires c.in_ok-left.ensures c.in_ok-committed.ensures c.in_ok-blocks.ensures.blocks c.copy_blocks.ensures)

pub returns-clause-legal : goal.returns-clause-legal
returns-clause-legal c =
    let is = left_is c.args.history.now c.in_ok-left.left c.copy_blocks.new.left c.in_ok-committed.committed.keys c.in_ok-blocks.blocks c.in_ok-blocks.ensures.legal c.requires c.in_ok-left.ensures c.in_ok-committed.ensures c.in_ok-blocks.ensures.blocks c.copy_blocks.ensures in
    subst (λ (h : Recorded). IsLegal h.opening h.entries) (sym is) (serial_legal c.args.history.now.opening c.args.history.now.entries c.in_ok-blocks.ensures.legal c.requires)

pub returns-clause-values : goal.returns-clause-values
returns-clause-values c = λ x.
    let is = left_is c.args.history.now c.in_ok-left.left c.copy_blocks.new.left c.in_ok-committed.committed.keys c.in_ok-blocks.blocks c.in_ok-blocks.ensures.legal c.requires c.in_ok-left.ensures c.in_ok-committed.ensures c.in_ok-blocks.ensures.blocks c.copy_blocks.ensures in
    ap (λ (h : Recorded). value h.opening (applied h.entries) x) is ∙ serial_values c.args.history.now.opening c.args.history.now.entries c.in_ok-blocks.ensures.legal c.requires x
