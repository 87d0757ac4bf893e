use Rattle.std.proofs.Common.{◌≡◌, ◌++◌, drop}
use Rattle.nys_meaning.specs.Machines.{starts}
use Rattle.nys_interp.proofs.setting.starts.Given as goal

-- the numbers so far and those of the variables that are left are all numbers
abbrev pub invariant-loop-var : goal.invariant-loop-var
invariant-loop-var l = l.numbers ++ starts (drop l.var-index l.vars) ≡ starts l.fn.vars
