-- The words of faults of guards.
use Rattle.std.specs.Prelude.{ℕ, List, ◌++◌, codes, decimal}
use Rattle.nys_answer.specs.Lines.{line_answer}
use Rattle.nys_answer.specs.declared.answer.Answer.{Answer}
use Rattle.nys_answer.specs.declared.status.Status.TheVariants.{Guards, Liars}
use Rattle.nys_guards.specs.declared.fault.GuardFault.{GuardFault}
use Rattle.nys_guards.specs.declared.fault.GuardFault.TheVariants as guard
use Rattle.nys_guards.specs.declared.fault.TooMany.{TooMany}
use Rattle.nys_plan.specs.declared.fault.PlanFault.{PlanFault}
use Rattle.nys_plan.specs.declared.fault.PlanFault.TheVariants as planning
use Rattle.nys_guard_commands.specs.declared.fault.EpochFault.{EpochFault}
use Rattle.nys_guard_commands.specs.declared.fault.EpochFault.TheVariants.{Unplanned, NotGood}

-- words and a number behind them
abbrev pub numbered : List ℕ → ℕ → List ℕ
numbered words number = words ++ decimal number

-- a host has fewer guards than it needs
abbrev pub too_few_words : ℕ → ℕ → ℕ → List ℕ
too_few_words h have need =
    numbered (codes "host ") h ++ numbered (codes " has ") have ++ numbered (codes " guards and needs ") need

-- a host has more neighbours than credit
abbrev pub credit_words : ℕ → ℕ → ℕ → List ℕ
credit_words h credit degree =
    numbered (codes "host ") h ++ numbered (codes " has credit ") credit ++ numbered (codes " and needs ") degree

-- two linked hosts share fewer guards than they need
abbrev pub share_words : ℕ → ℕ → ℕ → ℕ → List ℕ
share_words p h have need =
    numbered (codes "hosts ") p ++ numbered (codes " and ") h ++ numbered (codes " share ") have
    ++ numbered (codes " guards and need ") need

-- the words of a fault of guards that are listed
abbrev pub guard_words : GuardFault → List ℕ
guard_words (guard.NotOwn h) = numbered (codes "host ") h ++ codes " is not its own guard"
guard_words (guard.TooFew h have need) = too_few_words h have need
guard_words (guard.CreditTooSmall h credit degree) = credit_words h credit degree
guard_words (guard.ShareTooFew p h have need) = share_words p h have need

-- the words of a fault of the planner
abbrev pub plan_words : PlanFault → List ℕ
plan_words (planning.TooFewHosts hosts need) =
    numbered (codes "") hosts ++ numbered (codes " hosts and ") need ++ codes " are needed"
plan_words (planning.CreditTooSmall h credit degree) = credit_words h credit degree

-- the words of what is wrong with an epoch
abbrev pub fault_words : EpochFault → List ℕ
fault_words (Unplanned fault) = plan_words fault
fault_words (NotGood fault) = guard_words fault

-- the guards of epoch e are refused
abbrev pub guards_answer : ℕ → EpochFault → Answer
guards_answer e fault =
    line_answer Guards (numbered (codes "guards: epoch ") e ++ codes ": " ++ fault_words fault)

-- a host has too many liars among its guards in epoch e
abbrev pub liars_answer : ℕ → TooMany → Answer
liars_answer e fault =
    line_answer Liars (numbered (codes "liars: epoch ") e ++ numbered (codes ": host ") fault.0
    ++ numbered (codes " has ") fault.1)
