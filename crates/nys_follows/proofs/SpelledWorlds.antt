-- In each world of a scenario logs agree, the printed run spells them, and what is received was sent.
use Rattle.std.proofs.Common.{◌≡◌, ℕ, ◌⊎◌, List, length, ap, sym, subst, ◌∙◌, inl, inr, arith}
use Rattle.nys_bytes.specs.declared.content.Content.{Content}
use Rattle.nys_bytes.specs.declared.content.Content.TheVariants.{Message}
use Rattle.nys_source.specs.Contents.{contents_taken}
use Rattle.nys_source.specs.Runs.{host_at}
use Rattle.nys_source.specs.Source.{fresh}
use Rattle.nys_agreement.specs.Alone.{alone}
use Rattle.nys_agreement.proofs.ListLemmas.{in_prefix, take_prefix}
use Rattle.nys_agreement.proofs.RunLemmas.{found_in, host_at_taken}
use Rattle.nys_rules.specs.Spelling.{HasLog, IsLongest, printed_run, SpellsLogs}
use Rattle.nys_rules.specs.World.{Setting, World}
use Rattle.nys_laws.specs.Worlds.{InEachWorld}
use Rattle.nys_laws.proofs.WorldKeeping.{HoldsOfNodes}
use Rattle.nys_follows.specs.Follows.{FollowsMachine, IsTruthful}
use Rattle.nys_follows.specs.Promises.{LogsAgree, ReceivedWasSent}
use Rattle.nys_follows.specs.Scenario.{IsScenario}
use Rattle.nys_follows.proofs.FeedingRecords.{each_follows}
use Rattle.nys_follows.proofs.FeedingWorlds.{no_olympus}
use Rattle.nys_follows.proofs.KnownLogs.{know_logs, KnowsLogs}
use Rattle.nys_follows.proofs.PromiseLemmas.{decided_taken, honest_one, log_taken, log_there, machine_keeps, no_longer, of_one, printed_is_run, taken_is, truthful_host, truthful_or_not}

-- who has a log is an honest host
pub truthful_log : {S : Type 0} (setting : Setting S) → IsScenario setting → (w : World) (g h : ℕ)
    → HasLog setting w g h → IsTruthful setting g
truthful_log setting asked w g h has = truthful_host setting asked g has.host has.honest

-- of two logs of one host one is a prefix of the other
pub logs_agree : {S : Type 0} (setting : Setting S) → IsScenario setting → InEachWorld setting (LogsAgree setting)
logs_agree setting asked events w happen =
    let f = each_follows setting asked events w happen in
    let taken = λ (h : ℕ). contents_taken setting.scope.rules (printed_run setting.scope w) h in
    record {
      nodes = λ a b h one other.
          of_one ((w.nodes a).logs h) ((w.nodes b).logs h) (taken h)
          (log_taken setting asked w f a h (truthful_log setting asked w a h one))
          (log_taken setting asked w f b h (truthful_log setting asked w b h other));
      decided = λ g h one.
          of_one ((w.nodes g).logs h) (w.olympus.decided h) (taken h)
          (log_taken setting asked w f g h (truthful_log setting asked w g h one)) (decided_taken setting asked w f h);
    }

-- a log of some honest node, or the decided log, has a length
abbrev IsReached : {S : Type 0} → Setting S → World → (h n : ℕ) → Type 0
IsReached setting w h n =
    ((g : ℕ) × HasLog setting w g h × (length ((w.nodes g).logs h) ≡ n)) ⊎ (length (w.olympus.decided h) ≡ n)

-- where the longest is empty so is the decided log
none_reached : {S : Type 0} (setting : Setting S) → IsScenario setting → (w : World) → FollowsMachine setting w
    → (h : ℕ) → length (contents_taken setting.scope.rules (printed_run setting.scope w) h) ≡ 0
    → IsReached setting w h (length (contents_taken setting.scope.rules (printed_run setting.scope w) h))
none_reached setting asked w f h none =
    let all = contents_taken setting.scope.rules (printed_run setting.scope w) h in
    let short = no_longer (w.olympus.decided h) all (decided_taken setting asked w f h) in
    inr (omega (arith, none, short))

-- what each host takes is as long as a log that the machine has of it
long_is : {S : Type 0} (setting : Setting S) → IsScenario setting → (w : World) (f : FollowsMachine setting w) (h n : ℕ)
    → n ≡ length (f.machine.longest h)
    → n ≡ length (contents_taken setting.scope.rules (printed_run setting.scope w) h)
long_is setting asked w f h n same = same ∙ sym (ap length (taken_is setting asked w f h))

-- the node of an honest host that has the longest log has it of a host that it knows
node_reached : {S : Type 0} (setting : Setting S) → IsScenario setting → (w : World) → FollowsMachine setting w
    → (g h : ℕ) → IsTruthful setting g → KnowsLogs setting.scope (w.nodes g)
    → length ((w.nodes g).logs h) ≡ length (contents_taken setting.scope.rules (printed_run setting.scope w) h)
    → IsReached setting w h (length (contents_taken setting.scope.rules (printed_run setting.scope w) h))
node_reached setting asked w f g h t knows same = elim (knows.kept h) [
  | inl known ↦
      let one = honest_one setting g t in
      inl (g, record { host = one.host; honest = one.honest; known = known }, same)
  | inr none ↦ none_reached setting asked w f h (sym same ∙ none)
]

-- some log is as long as what its host takes
some_reached : {S : Type 0} (setting : Setting S) → IsScenario setting → (w : World) → FollowsMachine setting w
    → HoldsOfNodes (λ g ledger v. KnowsLogs setting.scope v) w → (h : ℕ)
    → IsReached setting w h (length (contents_taken setting.scope.rules (printed_run setting.scope w) h))
some_reached setting asked w f knows h = elim ((machine_keeps setting asked w f).truth.attained h) [
  | inl x ↦
      let long = long_is setting asked w f h (length (f.machine.log x.0 h)) x.1 in
      elim (truthful_or_not setting x.0) [
        | inl t ↦
            node_reached setting asked w f x.0 h t (knows x.0 (no_olympus setting asked x.0 t))
            (sym (ap length (log_there setting w f x.0 h t)) ∙ long)
        | inr liar ↦ none_reached setting asked w f h (sym long ∙ f.tracks.nodes.no_others x.0 h liar)
      ]
  | inr d ↦
      let long = long_is setting asked w f h (length (f.machine.decided h)) d in
      inr (sym (ap length (f.tracks.top.decided_is h)) ∙ long)
]

-- what a host takes is as long as its longest log
longest_is : {S : Type 0} (setting : Setting S) → IsScenario setting → (w : World) → FollowsMachine setting w
    → HoldsOfNodes (λ g ledger v. KnowsLogs setting.scope v) w → (h : ℕ)
    → IsLongest setting w h (length (contents_taken setting.scope.rules (printed_run setting.scope w) h))
longest_is setting asked w f knows h =
    let all = contents_taken setting.scope.rules (printed_run setting.scope w) h in
    record {
      logs = λ g has.
          no_longer ((w.nodes g).logs h) all
          (log_taken setting asked w f g h (truthful_log setting asked w g h has));
      decided = no_longer (w.olympus.decided h) all (decided_taken setting asked w f h);
      reached = some_reached setting asked w f knows h;
    }

-- state and outputs after as many inputs and receives as a log has entries are those that the log gives
states_are : {S : Type 0} (setting : Setting S) → IsScenario setting → (w : World) → FollowsMachine setting w
    → (g h : ℕ) → IsTruthful setting g
    → host_at setting.scope.rules (printed_run setting.scope w) h (length ((w.nodes g).logs h))
    ≡ ((alone setting.scope.rules h ((w.nodes g).logs h)).state h, (alone setting.scope.rules h ((w.nodes g).logs h)).outs h)
states_are setting asked w f g h t =
    let rules = setting.scope.rules in
    let run = printed_run setting.scope w in
    let log = (w.nodes g).logs h in
    let all = contents_taken rules run h in
    let pre = log_taken setting asked w f g h t in
    subst (λ (l : List Content). host_at rules run h (length log) ≡ ((alone rules h l).state h, (alone rules h l).outs h))
    (take_prefix log all pre)
    (host_at_taken rules run (printed_is_run setting asked w f) h (length log) (no_longer log all pre))

-- the printed run spells the logs
pub spelled : {S : Type 0} (setting : Setting S) → IsScenario setting → InEachWorld setting (SpellsLogs setting)
spelled setting asked events w happen =
    let f = each_follows setting asked events w happen in
    record {
      is_run = printed_is_run setting asked w f;
      longest = λ h low. longest_is setting asked w f (know_logs setting events w happen) h;
      logs = λ g h has. log_taken setting asked w f g h (truthful_log setting asked w g h has);
      decided = λ h low. decided_taken setting asked w f h;
      states = λ g h has. states_are setting asked w f g h (truthful_log setting asked w g h has);
    }

-- each message in a log was sent before it was received
pub received : {S : Type 0} (setting : Setting S) → IsScenario setting
    → InEachWorld setting (ReceivedWasSent setting)
received setting asked events w happen g h s p k payload has entry =
    let f = each_follows setting asked events w happen in
    let rules = setting.scope.rules in
    let run = printed_run setting.scope w in
    let inside = in_prefix ((w.nodes g).logs h) (contents_taken rules run h)
    (log_taken setting asked w f g h (truthful_log setting asked w g h has)) s (Message p k payload) entry in
    let x = found_in rules h p k payload run (fresh rules) (printed_is_run setting asked w f) s inside in
    record { before = x.before; later = x.later; whole = x.whole; place = x.place; number = x.number; sent = x.sent }
