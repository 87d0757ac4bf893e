-- The examples, computed.
use Rattle.std.proofs.Common.{◌≡◌, refl, true, false}
use Rattle.std.specs.Prelude.{◌==◌}
use Rattle.nys_bytes.specs.declared.content.Content.TheVariants.{External}
use Rattle.nys_agreement.specs.Said.Said.{Deliver}
use Rattle.nys_source.specs.Steps.{after_payload}
use Rattle.nys_hosts.specs.Counts.{count_below, hosts_with}
use Rattle.nys_agreement.specs.Assembly.{beginning}
use Rattle.nys_agreement.specs.After.{after_all}
use Rattle.nys_agreement.specs.Examples.{Abandon, abandoning, decision, DecidePastLogs, five, four, input_and_message, LogBoth, passing}
use Rattle.nys_agreement.proofs.Checks.{all_allowed, all_allowed_is, has_is}

-- each event of the first example passes its test
passes_both : all_allowed passing (four (λ g. false)) beginning input_and_message ≡ true
unfolding after_payload count_below hosts_with
passes_both = refl

-- so does each of the second
passes_decision : all_allowed passing (four (λ g. false)) beginning decision ≡ true
unfolding after_payload count_below hosts_with
passes_decision = refl

-- and each of the third
passes_abandoning : all_allowed passing (four (λ g. g == 0)) beginning abandoning ≡ true
unfolding after_payload count_below hosts_with
passes_abandoning = refl

-- an input and a message are logged
pub log_both : LogBoth
log_both = record {
  allowed = all_allowed_is passing (four (λ g. false)) beginning input_and_message passes_both;
  first_log = refl;
  second_log = refl;
  run = refl;
}

-- a decision passes all logs
pub decide_past_logs : DecidePastLogs
decide_past_logs = record {
  allowed = all_allowed_is passing (four (λ g. false)) beginning decision passes_decision;
  logs = λ g. refl;
  decided = refl;
  run = refl;
}

-- an abandoned Deliver differs from the run
pub abandon : Abandon
abandon = record {
  allowed = all_allowed_is passing (four (λ g. g == 0)) beginning abandoning passes_abandoning;
  delivered = has_is (after_all beginning abandoning).ledger 1 (Deliver 0 0 0 (External five)) refl;
  logged = refl;
  run = refl;
}
