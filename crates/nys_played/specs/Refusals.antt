-- The lines of what ends a world.
use Rattle.std.specs.Prelude.{◌≡◌, ℕ, ◌++◌, nat_le, if◌then◌else◌, codes, decimal}
use Rattle.nys_answer.specs.Lines.{line_answer, too_large}
use Rattle.nys_answer.specs.declared.answer.Answer.{Answer}
use Rattle.nys_answer.specs.declared.limit.Limit.TheVariants.{Bytes, Packets}
use Rattle.nys_answer.specs.declared.status.Status.TheVariants as status
use Rattle.nys_rules.specs.declared.limits.TheConstants.{MAX_PACKETS, MAX_POOL_BYTES}
use Rattle.nys_rules.specs.declared.notice.End.{End}
use Rattle.nys_rules.specs.declared.notice.End.TheVariants.{Clash, Forged, NoMemory, NoPacket, PoolFull}
use Rattle.nys_source_commands.specs.Refusals.{no_packet}
use Rattle.nys_stmt.specs.Printed.{statement_words}
use Rattle.nys_stmt.specs.declared.statement.Statement.{Statement}

-- in an event a party took a statement under a maker that doesn't lie and never made it
abbrev pub forged : (event maker taker : ℕ) → Statement → Answer
forged event maker taker statement = line_answer status.Forged
    (codes "forged: event " ++ (decimal event ++ (codes ": maker " ++ (decimal maker ++ (codes " taker "
    ++ (decimal taker ++ (codes ": " ++ statement_words statement)))))))

-- in an event a party took a statement with the spelling of another that its maker made, the made one first
abbrev pub clash : (event maker taker : ℕ) → (made taken : Statement) → Answer
clash event maker taker made taken = line_answer status.Clash
    (codes "clash: event " ++ (decimal event ++ (codes ": maker " ++ (decimal maker ++ (codes " taker "
    ++ (decimal taker ++ (codes ": " ++ (statement_words made ++ (codes " | " ++ statement_words taken)))))))))

-- one packet more would pass the limit of packets, where there are so many, or else that of bytes
abbrev pub pool_full : ℕ → Answer
pool_full packets =
    if nat_le MAX_PACKETS packets then too_large Packets MAX_PACKETS else too_large Bytes MAX_POOL_BYTES

-- what is answered to the end of a world; want of memory is none that events have
abbrev pub IsEndAnswer : End → Answer → Type 0
IsEndAnswer (NoPacket event packet have) answer = answer ≡ no_packet event packet have
IsEndAnswer (Forged event maker taker statement) answer = answer ≡ forged event maker taker statement
IsEndAnswer (Clash event maker taker made taken) answer = answer ≡ clash event maker taker made taken
IsEndAnswer (PoolFull event packets bytes) answer = answer ≡ pool_full packets
IsEndAnswer NoMemory answer = ⊥
