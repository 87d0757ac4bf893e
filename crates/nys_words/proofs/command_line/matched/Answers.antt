-- What clap matched is what its walk over the words gives.
use Rattle.std.proofs.Common.{inl, inr, arith}
use Rattle.nys_words.proofs.LineLemmas.{command_matched, none_or_full, values_matched}
use Rattle.nys_words.proofs.command_line.matched.Goals as goal

pub returns-in-Ok-clause-command : goal.returns-in-Ok-clause-command
returns-in-Ok-clause-command c =
    command_matched _ c.args.words.now c.in-Ok.matches c.in_ok-command.ensures c.in-Ok.ensures.matches c.requires

pub returns-in-Ok-clause-values : goal.returns-in-Ok-clause-values
returns-in-Ok-clause-values c =
    values_matched _ c.args.words.now c.in-Ok.matches c.in_ok-command.ensures c.in-Ok.ensures.matches c.requires

pub returns-in-Err-clause-missing : goal.returns-in-Err-clause-missing
returns-in-Err-clause-missing c =
    elim (none_or_full _ c.args.words.now _ c.in_ok-command.ensures c.requires (omega arith) c.in-Err.ensures.passes) [
      | inl full ↦ inl (c.refusal.ensures.memory full)
      | inr none ↦ elim c.refusal.ensures.missing [ inl memory ↦ inl memory | inr place ↦ inr (place, none) ]
    ]
