-- The words that are printed for what is wrong with a machine's text.
use Rattle.std.specs.Prelude.{ℕ, List, codes}
use Rattle.nys_lex.specs.declared.fault.MachineKind.{MachineKind}
use Rattle.nys_lex.specs.declared.fault.MachineKind.TheVariants as kind

-- the word for each kind of fault
abbrev pub machine_word : MachineKind → List ℕ
machine_word kind.Long = codes "long"
machine_word kind.Character = codes "character"
machine_word kind.Number = codes "number"
machine_word kind.Expected = codes "expected"
machine_word kind.Deep = codes "deep"
machine_word kind.Doubled = codes "doubled"
machine_word kind.Unknown = codes "unknown"
machine_word kind.List = codes "list"
machine_word kind.Scalar = codes "scalar"
machine_word kind.Fixed = codes "fixed"
machine_word kind.Size = codes "size"
