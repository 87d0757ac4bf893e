-- The report of a world that spells its logs, and whose notes tell what the Olympus keeps, tells a run.
use Rattle.std.proofs.Common.{◌≡◌, ℕ, ◌<◌, ◌≤◌, ◌⊎◌, ◌↔◌, ◌++◌, Bool, true, List, filter, length, map, refl, ap, sym, subst, ◌∙◌, inl, inr, arith}
use Rattle.std.specs.Prelude.{All, codes, Contains}
use Rattle.std.specs.List.{flat_map}
use Rattle.std.proofs.lemmas.List.Elements.{All-contains, Contains-append_cases, Contains-append_right}
use Rattle.nys_follows.proofs.PromisedWorlds.{each_promised}
use Rattle.nys_follows.specs.Scenario.{IsScenario}
use Rattle.nys_laws.specs.Worlds.{InEachWorld}
use Rattle.nys_told.proofs.RunSteps.{stop_nobody}
use Rattle.nys_told.proofs.ToldWorlds.{tell_olympus}
use Rattle.nys_printed.proofs.ListedLemmas.{all_hosts, all_mapped, flat_map_flat, flat_map_map, flat_map_same, in_filter, in_flat, in_map, in_range}
use Rattle.nys_printed.proofs.TakenLemmas.{taken_count}
use Rattle.nys_printed.specs.Lines.{notes_text, run_and_hosts}
use Rattle.nys_printed.specs.Told.{IsGreatest, IsToldAt, TellsRun, Told, told_line, told_text}
use Rattle.nys_printed.specs.Report.{guard_text, guards_text, report}
use Rattle.nys_rules.specs.Olympus.{hosts_of}
use Rattle.nys_rules.specs.Scope.{Scope}
use Rattle.nys_rules.specs.Spelling.{HasLog, IsLongest, printed_run, SpellsLogs}
use Rattle.nys_rules.specs.View.{is_live, length_of, View}
use Rattle.nys_rules.specs.World.{is_honest, Setting, World}
use Rattle.nys_source.specs.Contents.{contents_taken}
use Rattle.nys_source.specs.declared.step.Step.{Step}
use Rattle.nys_source.specs.declared.step.Step.TheVariants.{Stop}
use Rattle.nys_told.specs.Noted.{IsDecidedAt, IsRetired}
use Rattle.nys_told.specs.Told.{IsGreatestDecided, StopsNobody, TellsOlympus}

-- what is told of a replica at the node of g
abbrev told_of : {S : Type 0} → Scope S → ℕ → View → ℕ → Told
told_of scope g v h = record { guard = g; host = h; live = is_live scope v h; len = length_of v h }

-- of all that it has
abbrev told_at : {S : Type 0} → Scope S → ℕ → View → List Told
told_at scope g v = map (told_of scope g v) (filter v.known (hosts_of scope))

-- of those of all honest hosts
abbrev told_in : {S : Type 0} → Setting S → World → List Told
told_in setting w =
    flat_map (λ g. told_at setting.scope g (w.nodes g)) (filter (is_honest setting) (hosts_of setting.scope))

-- their lines
lines_at : {S : Type 0} (setting : Setting S) (w : World) (g : ℕ)
    → flat_map (told_line setting.scope.rules (printed_run setting.scope w)) (told_at setting.scope g (w.nodes g)) ≡ guard_text setting w g
lines_at setting w g =
    flat_map_map (told_line setting.scope.rules (printed_run setting.scope w)) (told_of setting.scope g (w.nodes g))
    (filter (w.nodes g).known (hosts_of setting.scope))

-- the lines of all
lines_in : {S : Type 0} (setting : Setting S) (w : World)
    → guards_text setting w ≡ flat_map (told_line setting.scope.rules (printed_run setting.scope w)) (told_in setting w)
lines_in setting w =
    let line = told_line setting.scope.rules (printed_run setting.scope w) in
    let hosts = filter (is_honest setting) (hosts_of setting.scope) in
    sym (flat_map_flat line (λ g. told_at setting.scope g (w.nodes g)) hosts
    ∙ flat_map_same (λ g. flat_map line (told_at setting.scope g (w.nodes g))) (guard_text setting w) hosts (lines_at setting w))

-- so the report is such a text
report_is : {S : Type 0} (setting : Setting S) (w : World)
    → report setting w ≡ told_text setting.scope.rules (printed_run setting.scope w) (told_in setting w) w.notes
unfolding report told_text
report_is setting w =
    ap (λ (guards : List ℕ). run_and_hosts setting.scope.rules (printed_run setting.scope w)
    ++ (codes "guards\n" ++ (guards ++ (codes "notes\n" ++ (notes_text w.notes ++ codes "end\n"))))) (lines_in setting w)

-- what is told of a replica is of a log
pub record IsOfLog {S : Type 0} (setting : Setting S) (w : World) (r : Told) : Type 0 where
  pub has : HasLog setting w r.guard r.host
  pub long : r.len ≡ length ((w.nodes r.guard).logs r.host)

-- all that is told
all_of_logs : {S : Type 0} (setting : Setting S) (w : World) → All (IsOfLog setting w) (told_in setting w)
all_of_logs setting w =
    all_hosts (IsOfLog setting w) (λ g. told_at setting.scope g (w.nodes g)) (is_honest setting) setting.scope.rules.hosts
    (λ g host honest.
    all_mapped (IsOfLog setting w) (told_of setting.scope g (w.nodes g)) (w.nodes g).known (hosts_of setting.scope)
    (λ h known. record { has = record { host = host; honest = honest; known = known }; long = refl }))

-- the log of a host that an honest node has is told
log_told : {S : Type 0} (setting : Setting S) (w : World) (g h : ℕ) → h < setting.scope.rules.hosts → HasLog setting w g h
    → IsToldAt (told_in setting w) h (length ((w.nodes g).logs h))
log_told setting w g h host has =
    let hosts = setting.scope.rules.hosts in
    let told = told_of setting.scope g (w.nodes g) in (
      told h,
      in_flat (λ x. told_at setting.scope x (w.nodes x)) (filter (is_honest setting) (hosts_of setting.scope)) g (told h)
          (in_filter (is_honest setting) (hosts_of setting.scope) g has.honest (in_range hosts g has.host))
          (in_map told (filter (w.nodes g).known (hosts_of setting.scope)) h
          (in_filter (w.nodes g).known (hosts_of setting.scope) h has.known (in_range hosts h host))),
      refl,
      refl,
    )

-- no replica of a host is longer than its longest log
told_short : {S : Type 0} (setting : Setting S) (w : World) (h n len : ℕ) → IsLongest setting w h n
    → IsToldAt (told_in setting w) h len → len ≤ n
told_short setting w h n len longest told =
    let r = told.0 in
    let of = All-contains (IsOfLog setting w) (told_in setting w) r (all_of_logs setting w) told.1 in
    let long = of.long in
    let is = told.3 in
    let most = longest.logs r.guard (subst (HasLog setting w r.guard) told.2 of.has) in
    let same = ap (λ x. length ((w.nodes r.guard).logs x)) told.2 in
    omega (arith, long, is, most, same)

-- the longest log is the greatest length that is told
greatest_told : {S : Type 0} (setting : Setting S) (w : World) (h n : ℕ) → h < setting.scope.rules.hosts → TellsOlympus w
    → IsLongest setting w h n → IsGreatest (told_in setting w) w.notes h n
greatest_told {S} setting w h n host tells longest = record {
  told = λ len is. told_short setting w h n len longest is;
  decided = λ len is. let most = last.most len is in let le = longest.decided in omega (arith, most, le);
  reached = elim longest.reached [
    | inl x ↦ inl (subst (IsToldAt (told_in setting w) h) x.2 (log_told setting w x.0 h host x.1))
    | inr same ↦ inr (by same last.reached)
  ];
}
  where
    last : IsGreatestDecided w.notes h (length (w.olympus.decided h))
    last = tells.decided h

    by : length (w.olympus.decided h) ≡ n
        → IsDecidedAt w.notes h (length (w.olympus.decided h)) ⊎ (length (w.olympus.decided h) ≡ 0)
        → IsDecidedAt w.notes h n ⊎ (n ≡ 0)
    by same (inl is) = inl (subst (IsDecidedAt w.notes h) same is)
    by same (inr none) = inr (sym same ∙ none)

-- the step stops only hosts that pass
pub record StopsOnly (test : ℕ → Bool) (step : Step) : Type 0 where
  pub only : (h : ℕ) → step ≡ Stop h → test h ≡ true

-- the hosts that stop in the printed run are those that are given up
stops_told : {S : Type 0} (setting : Setting S) (w : World) (h : ℕ) → h < setting.scope.rules.hosts → TellsOlympus w → StopsNobody w
    → Contains (printed_run setting.scope w) (Stop h) ↔ IsRetired w.notes h
unfolding printed_run
stops_told setting w h host tells nobody =
    let hosts = hosts_of setting.scope in
    let retired = w.olympus.retired in
    let stops = map Stop (filter retired hosts) in (
      λ is. (tells.retired h).0 (elim (Contains-append_cases w.run stops (Stop h) is) [
        | inl run ↦ absurd (nobody h run)
        | inr stop ↦
            (All-contains (StopsOnly retired) stops (Stop h)
            (all_mapped (StopsOnly retired) Stop retired hosts
            (λ x passes. record { only = λ y e. let same : x ≡ y = cc in subst (λ z. retired z ≡ true) same passes })) stop).only h refl
      ]),
      λ is.
          Contains-append_right w.run stops (Stop h)
          (in_map Stop (filter retired hosts) h
          (in_filter retired hosts h ((tells.retired h).1 is) (in_range setting.scope.rules.hosts h host))),
    )

-- the report tells a run
report_tells : {S : Type 0} (setting : Setting S) (w : World) → SpellsLogs setting w → TellsOlympus w → StopsNobody w
    → TellsRun setting.scope.rules (report setting w)
report_tells setting w spells tells nobody =
    let run = printed_run setting.scope w in record {
      run = run;
      replicas = told_in setting w;
      notes = w.notes;
      text_is = report_is setting w;
      is_run = spells.is_run;
      taken = λ h host.
          subst (IsGreatest (told_in setting w) w.notes h) (sym (taken_count setting.scope.rules run h spells.is_run))
          (greatest_told setting w h (length (contents_taken setting.scope.rules run h)) host tells (spells.longest h host));
      stops = λ h host. stops_told setting w h host tells nobody;
    }

-- so does the report of each world of a scenario
pub reports_tell : {S : Type 0} (setting : Setting S) → IsScenario setting
    → InEachWorld setting (λ w. TellsRun setting.scope.rules (report setting w))
reports_tell setting asked events w happen =
    report_tells setting w (each_promised setting asked events w happen).spelled (tell_olympus setting events w happen)
    (stop_nobody setting events w happen)
