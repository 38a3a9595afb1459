-- Printed lines say what was printed.
use Rattle.std.proofs.Common.{◌≡◌, ℕ, ◌≤◌, false, List, length, refl, arith}
use Rattle.std.specs.Prelude.{ℤ, None, Some, nat_lt}
use Rattle.asset_names.specs.declared.names.Ob.{Ob}
use Rattle.asset_names.specs.declared.sets.ObSet.{ObSet}
use Rattle.asset_names.specs.declared.sets.ObSet.TheVariants.{All, Listed}
use Rattle.asset_names.specs.declared.steps.Step.{Step}
use Rattle.asset_names.specs.declared.steps.Step.TheVariants.{Initiate, Begin, Read, Write, Add, Complete, Permit, PermitAny, Delegate, Depend, Commit, Abort, WaitFor}
use Rattle.asset_grammar.specs.declared.grammar.Command.{Command}
use Rattle.asset_grammar.specs.declared.grammar.Command.TheVariants.{Ask, Object}
use Rattle.asset_grammar.specs.declared.grammar.Line.TheVariants as Line'
use Rattle.asset_grammar.specs.Grammar.{command_of, is_blank, line_by, line_of}
use Rattle.asset_grammar.specs.Lines.{Lacks}
use Rattle.asset_grammar.specs.Sets.{set_of}
use Rattle.asset_printing.specs.Printed.{AreNumbers, object_text, parent_words, set_text, step_text, step_words}
use Rattle.asset_grammar.specs.Writable.{IsSet, IsWritable, IsWritableObject}
use Rattle.asset_printing.proofs.PlainLemmas.{object_short, step_short}
use Rattle.asset_printing.proofs.SetLemmas.{set_reads_all, set_lacks_all, set_reads_listed, set_lacks_listed}
use Rattle.asset_printing.proofs.StepLemmas.{abort_reads, add_reads, begin_reads, child_reads, commit_reads, complete_reads, delegate_reads, depend_reads, initiate_reads, object_reads, open_reads, permit_reads, read_reads, wait_reads, write_reads}

set_reads : (obs : ObSet) → IsSet obs → set_of (set_text obs) ≡ Some obs
unfolding AreNumbers
set_reads All h = set_reads_all
set_reads (Listed objects) h = set_reads_listed objects h.0 h.1 h.2 h.3

set_lacks : (obs : ObSet) → IsSet obs → Lacks 32 (set_text obs)
unfolding AreNumbers
set_lacks All h = set_lacks_all
set_lacks (Listed objects) h = set_lacks_listed objects h.3

-- a step reads back
step_reads : (step : Step) → IsWritable step → command_of (step_text step) ≡ Some (Ask step)
unfolding IsWritable
step_reads (Initiate t None) h = initiate_reads t h.0
step_reads (Initiate t (Some parent)) h = child_reads t parent h.0 h.1
step_reads (Begin t) h = begin_reads t h
step_reads (Read t x) h = read_reads t x h.0 h.1
step_reads (Write t x v) h = write_reads t x v h.0 h.1 h.2
step_reads (Add t x d) h = add_reads t x d h.0 h.1 h.2
step_reads (Complete t) h = complete_reads t h
step_reads (Permit giver taker obs ops) h = permit_reads giver taker obs ops h.0 h.1 h.3 (set_reads obs h.2) (set_lacks obs h.2)
step_reads (PermitAny giver obs ops) h = open_reads giver obs ops h.0 h.2 (set_reads (Listed obs) h.1) (set_lacks (Listed obs) h.1)
step_reads (Delegate giver taker obs) h = delegate_reads giver taker obs h.0 h.1 (set_reads obs h.2) (set_lacks obs h.2)
step_reads (Depend kind a b) h = depend_reads kind a b h.0 h.1
step_reads (Commit t) h = commit_reads t h
step_reads (Abort t) h = abort_reads t h
step_reads (WaitFor t) h = wait_reads t h

-- a line of a step begins with a letter
step_shown : (step : Step) → is_blank (step_text step) ≡ false
unfolding is_blank step_text step_words parent_words
step_shown (Initiate t None) = refl
step_shown (Initiate t (Some parent)) = refl
step_shown (Begin t) = refl
step_shown (Read t x) = refl
step_shown (Write t x v) = refl
step_shown (Add t x d) = refl
step_shown (Complete t) = refl
step_shown (Permit giver taker obs ops) = refl
step_shown (PermitAny giver obs ops) = refl
step_shown (Delegate giver taker obs) = refl
step_shown (Depend kind a b) = refl
step_shown (Commit t) = refl
step_shown (Abort t) = refl
step_shown (WaitFor t) = refl

object_shown : (x : Ob) (v : ℤ) → is_blank (object_text x v) ≡ false
unfolding is_blank object_text
object_shown x v = refl

-- a short line that is no comment says what it asks
said : (line : List ℕ) (command : Command) → length line ≤ 4096 → is_blank line ≡ false → command_of line ≡ Some command → line_of line ≡ Line'.Command command
unfolding line_of line_by
said line command short shown reads =
    let fits : nat_lt 4096 (length line) ≡ false = grind (arith, short) in
    rw (fits, shown, reads) refl

pub step_said : (step : Step) → IsWritable step → line_of (step_text step) ≡ Line'.Command (Ask step)
step_said step h = said (step_text step) (Ask step) (step_short step h) (step_shown step) (step_reads step h)

pub object_said : (given : Ob × ℤ) → IsWritableObject given → line_of (object_text given.0 given.1) ≡ Line'.Command (Object given)
unfolding IsWritableObject
object_said given h = said (object_text given.0 given.1) (Object given) (object_short given h) (object_shown given.0 given.1) (object_reads given.0 given.1 h.0 h.1)
