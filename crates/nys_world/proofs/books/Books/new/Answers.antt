-- Nothing is kept.
use Rattle.std.proofs.Common.{false, length, refl, ap, arith}
use Rattle.std.specs.Prelude.{slice_index_or}
use Rattle.nys_node.proofs.EnteringLemmas.{table_alike}
use Rattle.nys_ledger.proofs.FirstLemmas.{nothing_behind}
use Rattle.nys_rules.proofs.ForgedLemmas.{entry_of}
use Rattle.nys_world.proofs.books.Books.new.Goals as goal

pub returns : goal.returns
returns c = λ nodes olympus. record {
  events = refl;
  ledger = λ party statement. (
    (λ owns. absurd (c.in_ok-new.ensures.owned party statement owns)),
    (λ made. absurd (omega (arith, made.1))),
  );
  shared = λ party statement first. (
    (λ shares. absurd (c.in_ok-new.ensures.shared party statement first shares)),
    (λ clash. absurd (nothing_behind clash.before clash.after (entry_of party first) clash.among)),
  );
  pool = c.new-2.ensures.items;
  heads = c.new-3.ensures.items;
  bytes = refl;
  few = omega arith;
  light = omega arith;
  delivered = λ k. ap (λ ds. slice_index_or ds k false) c.new-4.ensures.items;
  rows = ap length c.new-4.ensures.items;
  injected = c.new-5.ensures.items;
  notes = c.new-6.ensures.items;
  longest = table_alike 32 _ 0 refl refl;
  run = c.new-7.ensures.items;
}
