-- What must come in the worlds of a document.
use Rattle.std.proofs.Common.{◌≡◌, ℕ, zero, suc, ◌<◌, ◌≤◌, Bool, true, List, [], ◌∷◌, ◌++◌, All, length, Ok, sym, subst, ◌∙◌, arith}
use Rattle.std.proofs.lemmas.List.Elements.{All-append, All-cons, All-get_or, All-head, All-nil, All-tail}
use Rattle.std.specs.Int.{byte_at, to_be_bytes, w32}
use Rattle.std.specs.Prelude.{slice_index}
use Rattle.sha2.proofs.Facts256.{length-sha256}
use Rattle.sha2.specs.Sha256.{digest_bytes, final_hash, initial_hash_256, sha256}
use Rattle.nys_config.specs.Scopes.{graph_at, no_epoch, scope_by}
use Rattle.nys_guard_commands.proofs.GraphsLemmas.{length_graphs}
use Rattle.nys_guard_commands.specs.Graphs.{AreGraphsOf, IsGraphOf, thresholds_of}
use Rattle.nys_graph.specs.Links.{IsGraph}
use Rattle.nys_guards.specs.Good.{guards_in, IsGood, threshold_in}
use Rattle.nys_guards.specs.declared.table.GuardGraph.{GuardGraph}
use Rattle.nys_hosts.specs.declared.limits.TheConstants.{MAX_EPOCHS}
use Rattle.nys_mac.specs.Hmac.{hmac_of}
use Rattle.nys_mac.specs.Tags.{pair_key, tag_of, tag_text}
use Rattle.nys_progress.proofs.CreditLaw.{takes_in_credit}
use Rattle.nys_progress.proofs.DecisionWorlds.{decides_where_due}
use Rattle.nys_progress.proofs.FourLaw.{logs_in_four}
use Rattle.nys_progress.proofs.RelayLaw.{relays_in_two}
use Rattle.nys_progress.proofs.UnspoiledLaw.{logs_unspoiled, takes_first_calm}
use Rattle.nys_progress.specs.Carried.{HasTags}
use Rattle.nys_progress.specs.Credits.{AreNeighbours}
use Rattle.nys_progress.specs.Scheduled.{IsEventSound, IsScheduled}
use Rattle.nys_rules.specs.Events.{Plain}
use Rattle.nys_rules.specs.Events.Plain.{Ask, Bundle, Bytes, Decide, Deliver, Exchange, Flush, Input, Open, Retire, Say, Steal, Wedge}
use Rattle.nys_rules.specs.Premises.{HasGoodGuards}
use Rattle.nys_rules.specs.World.{Setting}
use Rattle.nys_scenario.specs.Bounds.{HasCredit, IsBounded}
use Rattle.nys_scenario.specs.Document.{Said}
use Rattle.nys_scenario.specs.Epochs.{Epoch}
use Rattle.nys_scenario.specs.declared.needs.Needs.{Needs}
use Rattle.nys_schedule.proofs.SoundLemmas.{IsSoundEvent, schedule_events}
use Rattle.nys_schedule.specs.Schedules.{schedule}
use Rattle.nys_schedule.specs.declared.form.Form.TheVariants.{Replay}
use Rattle.nys_source.specs.Rules.{Rules}
use Rattle.nys_stmt.specs.Records.{IsTag}
use Rattle.nys_stmt.specs.Spelling.{spelling}
use Rattle.nys_world_commands.proofs.ScenarioLemmas.{scenario_said}
use Rattle.nys_world_commands.specs.Coming.{IsReplayComing}
use Rattle.nys_played.specs.Settings.{setting_by}

-- a number that a byte can be
abbrev IsByte : ℕ → Type 0
IsByte b = b < 256

-- a byte of a number
byte_small : (k x : ℕ) → byte_at k x < 256
byte_small zero x = omega arith
byte_small (suc k) x = omega arith

-- the bytes of a word
word_bytes : (x : ℕ) → All IsByte (to_be_bytes w32 x)
word_bytes x =
    let low = All-cons IsByte (byte_at 0 x) [] (byte_small 0 x) (All-nil IsByte) in
    let two = All-cons IsByte (byte_at 1 x) (byte_at 0 x ∷ []) (byte_small 1 x) low in
    let three = All-cons IsByte (byte_at 2 x) (byte_at 1 x ∷ byte_at 0 x ∷ []) (byte_small 2 x) two in
    All-cons IsByte (byte_at 3 x) (byte_at 2 x ∷ byte_at 1 x ∷ byte_at 0 x ∷ []) (byte_small 3 x) three

-- so many words of a hash value
digest_small : (h : List ℕ) (n : ℕ) → All IsByte (digest_bytes h n)
unfolding digest_bytes
digest_small h zero = All-nil IsByte
digest_small h (suc n) =
    All-append IsByte (digest_bytes h n) (to_be_bytes w32 (slice_index h n)) (digest_small h n) (word_bytes (slice_index h n))

-- a digest is a list of bytes
sha256_small : (m : List ℕ) → All IsByte (sha256 m)
unfolding sha256
sha256_small m = digest_small (final_hash initial_hash_256 m) 8

-- an authenticator has the length and the bytes of a tag
hmac_is : (key text : List ℕ) (receiver : ℕ) → IsTag (receiver, hmac_of key text)
unfolding hmac_of
hmac_is key text receiver = record { size = length-sha256 _; bytes = sha256_small _ }

-- so have the tags of a scenario
tag_is : (master : List ℕ) (maker receiver : ℕ) (bytes : List ℕ) → IsTag (receiver, tag_of master maker receiver bytes)
unfolding tag_of
tag_is master maker receiver bytes = hmac_is (pair_key master maker receiver) (tag_text maker receiver bytes) receiver

-- the guards of a guard graph are good, by its own thresholds and credit
pub record IsGoodGraph (hosts : ℕ) (linked : ℕ → ℕ → Bool) (graph : GuardGraph) : Type 0 where
  pub good : IsGood hosts linked (threshold_in graph.t) graph.credit (guards_in graph.guards)

-- so are those of an epoch's graph
good_of_epoch : (hosts : ℕ) (linked : ℕ → ℕ → Bool) (epoch : Epoch) (graph : GuardGraph) → IsGraphOf hosts linked epoch graph
    → IsGoodGraph hosts linked graph
good_of_epoch hosts linked epoch graph is = record {
  good =
      subst (λ t. IsGood hosts linked t graph.credit (guards_in graph.guards)) (sym is.t)
      (subst (λ credit. IsGood hosts linked (thresholds_of hosts epoch) credit (guards_in graph.guards)) (sym is.credit) is.good);
}

-- and of each epoch's of a list
good_of_epochs : (hosts : ℕ) (linked : ℕ → ℕ → Bool) (epochs : List Epoch) (graphs : List GuardGraph)
    → AreGraphsOf hosts linked epochs graphs → All (IsGoodGraph hosts linked) graphs
good_of_epochs hosts linked [] [] are = All-nil (IsGoodGraph hosts linked)
good_of_epochs hosts linked [] (g ∷ gs) are = absurd are
good_of_epochs hosts linked (e ∷ es) [] are = absurd are
good_of_epochs hosts linked (e ∷ es) (g ∷ gs) are =
    All-cons (IsGoodGraph hosts linked) g gs (good_of_epoch hosts linked e g are.0) (good_of_epochs hosts linked es gs are.1)

-- the guards of each epoch of the scenario are good
good_guards : {S : Type 0} (rules : Rules S) (graphs : List GuardGraph) (master : List ℕ)
    → All (IsGoodGraph rules.hosts rules.linked) graphs → HasGoodGuards (scope_by rules graphs master)
good_guards rules graphs master all e epoch =
    (All-get_or (IsGoodGraph rules.hosts rules.linked) graphs e no_epoch epoch all).good

-- its tags are tags, and its epochs few
has_tags : {S : Type 0} (rules : Rules S) (graphs : List GuardGraph) (master : List ℕ) → length graphs ≤ MAX_EPOCHS
    → HasTags (scope_by rules graphs master)
has_tags rules graphs master few = record {
  epochs = few;
  tags = λ maker receiver statement host other. tag_is master maker receiver (spelling statement);
}

-- the credit of epoch 0 is at least 1, where each epoch's is
first_credit : (hosts : ℕ) (linked : ℕ → ℕ → Bool) (epochs : List Epoch) (graphs : List GuardGraph)
    → AreGraphsOf hosts linked epochs graphs → 1 ≤ length epochs → All HasCredit epochs → 1 ≤ (graph_at graphs 0).credit
first_credit hosts linked [] graphs are some all = absurd (omega (arith, some))
first_credit hosts linked (e ∷ es) [] are some all = absurd are
first_credit hosts linked (e ∷ es) (g ∷ gs) are some all =
    let least = All-head HasCredit e es all in let same = are.0.credit in omega (arith, least, same)

-- neighbours in a graph are hosts, and so both ways
neighbours : {S : Type 0} (rules : Rules S) (hosts : ℕ) (linked : ℕ → ℕ → Bool) → rules.hosts ≡ hosts → rules.linked ≡ linked
    → IsGraph hosts linked → AreNeighbours rules
neighbours rules hosts linked same links graph = record {
  hosts = λ p h is. subst (λ n. p < n) (sym same) (graph.within p h (subst (λ (l : ℕ → ℕ → Bool). l p h ≡ true) links is)).0;
  both = λ p h is.
      subst (λ (l : ℕ → ℕ → Bool). l h p ≡ true) (sym links)
      (graph.symmetric h p ∙ subst (λ (l : ℕ → ℕ → Bool). l p h ≡ true) links is);
}

-- ---- schedules

-- a sound event is one of a schedule
sound_of : (event : Plain) → IsSoundEvent event → IsEventSound event
sound_of (Input h payload) sound = sound
sound_of (Deliver k) sound = tt
sound_of Flush sound = tt
sound_of Exchange sound = tt
sound_of (Ask h) sound = tt
sound_of (Bytes to frame) sound = tt
sound_of (Say a to statement) sound = sound
sound_of (Bundle a to packets) sound = tt
sound_of (Steal a to statement) sound = sound
sound_of Wedge sound = tt
sound_of (Decide h) sound = tt
sound_of (Retire h) sound = tt
sound_of Open sound = tt

-- so are all events of a schedule
scheduled : {S : Type 0} (setting : Setting S) (text : List ℕ) (events : List Plain)
    → schedule Replay setting.scope.rules.hosts setting.liars text ≡ Ok events → All (IsScheduled setting) events
scheduled setting text events read i d low =
    let one = schedule_events Replay setting.scope.rules.hosts setting.liars text events read i d low in
    record { is = one.is; sound = sound_of _ one.sound }

-- what holds of all of a list holds of all of its front
front_all : {A : Type 0} (P : A → Type 0) (xs ys : List A) → All P (xs ++ ys) → All P xs
front_all P [] ys all = All-nil P
front_all P (x ∷ xs) ys all =
    All-cons P x xs (All-head P x (xs ++ ys) all) (front_all P xs ys (All-tail P x (xs ++ ys) all))

-- what must come among the guard graphs of a document that has an epoch, where hosts follow these rules
pub replay_coming : {S : Type 0} (rules : Rules S) (needs : Needs) (said : Said) → rules.hosts ≡ said.system.hosts
    → rules.linked ≡ said.system.linked → said.system.hosts ≤ 32 → IsGraph said.system.hosts said.system.linked
    → needs.epochs ≡ true → IsBounded needs said
    → IsReplayComing rules said
replay_coming rules needs said same links few graph needed bounded graphs sound =
    let hosts = said.system.hosts in
    let epochs = said.guarded.epochs in
    let setting = setting_by rules graphs said.guarded.master said.guarded.liars in
    let asked = scenario_said rules needs said graphs same few needed bounded sound in
    let as_many : length graphs ≡ length epochs = length_graphs hosts said.system.linked epochs graphs sound.graphs_of in
    let all : All (IsGoodGraph hosts said.system.linked) graphs = good_of_epochs hosts said.system.linked epochs graphs sound.graphs_of in
    let linked : All (IsGoodGraph hosts rules.linked) graphs = subst (λ l. All (IsGoodGraph hosts l) graphs) (sym links) all in
    let good = good_guards rules graphs said.guarded.master (subst (λ n. All (IsGoodGraph n rules.linked) graphs) (sym same) linked) in
    let tags = has_tags rules graphs said.guarded.master (rw as_many bounded.few) in
    let credit = first_credit hosts said.system.linked epochs graphs sound.graphs_of (bounded.needed needed) bounded.credits in record {
      comes = λ events w happen. record {
        logs = logs_in_four setting asked good tags events w happen;
        relays = relays_in_two setting asked good tags events w happen;
        credits = takes_in_credit setting asked good (neighbours rules said.system.hosts said.system.linked same links graph) events w happen;
        decides = decides_where_due setting asked good events w happen;
      };
      unspoiled = logs_unspoiled setting asked good tags;
      first = λ h payload before rest w read honest calm four happen.
          takes_first_calm setting asked good tags credit h payload before rest w honest
          (front_all (IsScheduled setting) (Input h payload ∷ before) rest (scheduled setting said.texts.schedule (Input h payload ∷ before ++ rest) read))
          calm four happen;
    }
