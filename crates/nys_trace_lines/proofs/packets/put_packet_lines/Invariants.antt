-- the text so far and the lines that are left make the whole text; packets are numbered by their places
use Rattle.std.proofs.Common.{◌≡◌, ◌++◌, drop}
use Rattle.nys_trace_lines.specs.TraceLines.{packet_lines}
use Rattle.nys_trace_lines.proofs.packets.put_packet_lines.Given as goal

abbrev pub invariant-loop-packet : goal.invariant-loop-packet
invariant-loop-packet l = record {
  numbered : l.k ≡ l.packet-index;
  told : l.out ++ packet_lines l.k (drop l.packet-index l.pool) ≡ l.fn.out ++ packet_lines 0 l.pool;
}
