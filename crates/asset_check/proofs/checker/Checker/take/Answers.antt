use Rattle.std.proofs.Common.{refl}
use Rattle.asset_grammar.specs.Grammar.{said_as}
use Rattle.asset_check.specs.Checked.{mistake_in, seen_by}
use Rattle.asset_check.specs.Checking.{seen_in}
use Rattle.asset_check.proofs.checker.Checker.take.Goals as goal

pub returns-in-Blank-clause-mistake : goal.returns-in-Blank-clause-mistake
unfolding said_as mistake_in
returns-in-Blank-clause-mistake c = λ step says. let is = rw c.in-Blank.is at says in rw is refl

pub returns-in-Blank-clause-seen : goal.returns-in-Blank-clause-seen
unfolding said_as seen_by
returns-in-Blank-clause-seen c = λ step says. let is = rw c.in-Blank.is at says in rw is refl

pub returns-in-Ask-clause-mistake : goal.returns-in-Ask-clause-mistake
unfolding said_as mistake_in
returns-in-Ask-clause-mistake c = λ step says. let is = rw c.in-Ask.is at says in rw is refl

pub returns-in-Ask-clause-seen : goal.returns-in-Ask-clause-seen
unfolding said_as seen_by seen_in
returns-in-Ask-clause-seen c = λ step says. let is = rw c.in-Ask.is at says in rw is refl

pub returns-in-Bad-clause-mistake : goal.returns-in-Bad-clause-mistake
unfolding said_as mistake_in
returns-in-Bad-clause-mistake c = λ step says. let is = rw c.in-Bad.is at says in rw is c.reason_of.ensures

pub returns-in-Bad-clause-seen : goal.returns-in-Bad-clause-seen
unfolding said_as seen_by
returns-in-Bad-clause-seen c = λ step says. let is = rw c.in-Bad.is at says in rw is refl

pub returns-in_ok-found-in-Object-clause-mistake : goal.returns-in_ok-found-in-Object-clause-mistake
unfolding said_as mistake_in
returns-in_ok-found-in-Object-clause-mistake c = λ step says. let is = rw c.in-Object.is at says in rw is c.in_ok-found-in-Object.ensures.mistake

pub returns-in_ok-found-in-Object-clause-seen : goal.returns-in_ok-found-in-Object-clause-seen
unfolding said_as seen_by
returns-in_ok-found-in-Object-clause-seen c = λ step says. let is = rw c.in-Object.is at says in rw is c.in_ok-found-in-Object.ensures.seen
