-- The words of the rules, opened together.
use Rattle.std.specs.Prelude.{ℕ}
use Rattle.sha2.specs.Sha256.{sha256, first_words, schedule, rounds, compress, hash_after, digest_bytes}
use Rattle.nys_hosts.specs.Counts.{count_below, hosts_with}
use Rattle.nys_hosts.specs.Makers.{passing}
use Rattle.nys_source.specs.Steps.{after_payload}
use Rattle.nys_stmt.specs.Records.{maker_bytes, makers_bytes, record_spelling}
use Rattle.nys_stmt.specs.Spelling.{number_bytes, payload_bytes, digest, content_bytes, body_bytes, spelling}
use Rattle.nys_wire.specs.Reading.{byte_at, number_at, bytes_at, within, each_at, counted_at, signed_at, payload_at, carried_at, message_at, content_at, length_at, lengths_at, kind_at, filled_at, attested_at, body_at, statement_at, party_at, tag_at, tags_at, maker_at, makers_at, front_at, record_at, whole_record}
use Rattle.nys_votes.specs.Contents.{same_content, same_payload}
use Rattle.nys_votes.specs.Seats.{count_seats, lowest, with_seat}
use Rattle.nys_votes.specs.Ordered.{makers_of}
use Rattle.nys_votes.specs.Credit.{lowest_overdue, is_overdue, allows}
use Rattle.nys_votes.specs.Delivered.{votes_for, voted_by, voters}
use Rattle.nys_votes.specs.Attested.{attests_for, attested}
use Rattle.nys_rules.specs.Scope.{quorum_at, guards_of}
use Rattle.nys_rules.specs.View.{first_view, entering, is_live, is_open, with_links, is_attesting, next_number, sent_to}
use Rattle.nys_rules.specs.Heads.{candidate, head, attested_payload, own_attest, is_allowed, with_heads}
use Rattle.nys_rules.specs.Sending.{tags_for, own_record, to_each, made_for}
use Rattle.nys_rules.specs.Logging.{fits, logged}
use Rattle.nys_rules.specs.Asking.{answering, answers_to, attest_records, questions, slot_records}
use Rattle.nys_rules.specs.Dropping.{accepts, accepted, misplaced, verdict}
use Rattle.nys_rules.specs.Noting.{with_held, with_orders, with_certificate, with_votes, with_attests, noted}
use Rattle.nys_rules.specs.Rules.{due, due_at, to_offer, to_order, to_certify, ordered_content, to_deliver, to_log, to_attest}
use Rattle.nys_rules.specs.Taking.{with_offer, with_order, with_sent, with_deliver, certificate, certifying, ordering}
use Rattle.nys_rules.specs.Ending.{testimony, reporting}
use Rattle.nys_rules.specs.Handling.{acts_by}
use Rattle.nys_rules.specs.Olympus.{olympus_verdict, testified, supported, supports, decision, opening, opening_acts}
use Rattle.nys_rules.specs.World.{fresh_world, after_node, after_olympus}
use Rattle.nys_rules.specs.Happening.{said_record, bundle_of}
use Rattle.nys_rules.specs.Spelling.{printed_run}
use Rattle.nys_rule_examples.specs.Reached.{shown_at}

-- where this is opened, all of them are
unfoldable pub words : ℕ
unfolding count_below hosts_with passing after_payload maker_bytes makers_bytes record_spelling number_bytes payload_bytes sha256 first_words schedule rounds compress hash_after digest_bytes digest content_bytes body_bytes spelling byte_at number_at bytes_at within each_at counted_at signed_at payload_at carried_at message_at content_at length_at lengths_at kind_at filled_at attested_at body_at statement_at party_at tag_at tags_at maker_at makers_at front_at record_at whole_record same_content same_payload count_seats lowest with_seat makers_of lowest_overdue is_overdue allows votes_for voted_by voters attests_for attested quorum_at guards_of first_view entering is_live is_open with_links is_attesting next_number sent_to candidate head attested_payload own_attest is_allowed with_heads tags_for own_record to_each made_for fits logged accepts accepted misplaced verdict with_held with_orders with_certificate with_votes with_attests noted due due_at to_offer to_order to_certify ordered_content to_deliver to_log to_attest with_offer with_order with_sent with_deliver certificate certifying ordering testimony reporting acts_by olympus_verdict testified supported supports decision opening opening_acts fresh_world after_node after_olympus said_record bundle_of printed_run shown_at questions slot_records attest_records answers_to answering
words = 0
