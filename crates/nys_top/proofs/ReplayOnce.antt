-- What `replay` answers to a document is one thing: the graphs of its epochs are seen as one, so the scenario is one,
-- and events make one world of it, or one end.
use Rattle.std.proofs.Common.{◌≡◌, ℕ, ◌<◌, ◌≤◌, Bool, List, [], ◌∷◌, length, map, Result, Ok, Err, refl, sym, ap, subst, ◌∙◌, inl, inr, ◌⊎◌, arith}
use Rattle.std.proofs.Math.ListN.{get_or-map}
use Rattle.std.proofs.Math.Path.{fun_ext}
use Rattle.std.proofs.lemmas.List.{length-map}
use Rattle.std.specs.Prelude.{slice_index_or}
use Rattle.nys_answer.specs.declared.answer.Answer.{Answer}
use Rattle.nys_bare.specs.declared.fault.ScheduleFault.{ScheduleFault}
use Rattle.nys_config.specs.Scopes.{graph_at, no_epoch, scope_by}
use Rattle.nys_guards.specs.declared.table.GuardGraph.{GuardGraph}
use Rattle.nys_mac.specs.Tags.{tag_of}
use Rattle.nys_rules.proofs.WorldLemmas.{happen_once}
use Rattle.nys_rules.specs.Events.{Plain}
use Rattle.nys_rules.specs.Scope.{Scope}
use Rattle.nys_rules.specs.World.{fresh_world, Setting, World}
use Rattle.nys_rules.specs.declared.notice.End.{End}
use Rattle.nys_rules.specs.declared.notice.End.TheVariants.{Clash, Forged, NoMemory, NoPacket, PoolFull}
use Rattle.nys_scenario.specs.Document.{Said}
use Rattle.nys_scenario.specs.Hosts.{Hosts}
use Rattle.nys_schedule.specs.Schedules.{schedule}
use Rattle.nys_schedule.specs.declared.form.Form.TheVariants as form
use Rattle.nys_source.specs.Rules.{Rules}
use Rattle.nys_stmt.specs.Spelling.{spelling}
use Rattle.nys_played.specs.Refusals.{IsEndAnswer}
use Rattle.nys_world_commands.specs.Replayed.{IsEventsAnswer, IsOutcomeAnswer, IsReplayAnswer, IsReplayed, IsScheduleAnswer, IsTextAnswer}
use Rattle.nys_played.specs.Settings.{setting_by}
use Rattle.nys_world_commands.specs.declared.telling.Telling.{Telling}
use Rattle.nys_top.proofs.GuardsOnce.{graphs_once, refused_once, Seen, seen, sound_not_refused}

-- an epoch of those that are seen
abbrev seen_at : List Seen → ℕ → Seen
seen_at all e = slice_index_or all e (seen no_epoch)

-- the scope by how the graphs are seen
abbrev scope_seen : {S : Type 0} → Rules S → List Seen → List ℕ → Scope S
scope_seen rules all master = record {
  rules = rules;
  epochs = length all;
  guards = λ e h g. (seen_at all e).guards h g;
  t = λ e h. (seen_at all e).t h;
  credit = λ e. (seen_at all e).credit;
  tag = λ maker receiver statement. tag_of master maker receiver (spelling statement);
}

-- it is the scope of the graphs
scope_is_seen : {S : Type 0} (rules : Rules S) (graphs : List GuardGraph) (master : List ℕ)
    → scope_seen rules (map seen graphs) master ≡ scope_by rules graphs master
scope_is_seen {S} rules graphs master = λ i. record {
  rules = rules;
  epochs = length-map graphs seen i;
  guards = fun_ext (λ e. ap (λ (s : Seen). s.guards) (at e)) i;
  t = fun_ext (λ e. ap (λ (s : Seen). s.t) (at e)) i;
  credit = fun_ext (λ e. ap (λ (s : Seen). s.credit) (at e)) i;
  tag = λ maker receiver statement. tag_of master maker receiver (spelling statement);
}
  where
    at : (e : ℕ) → seen_at (map seen graphs) e ≡ seen (graph_at graphs e)
    at e = get_or-map seen graphs e no_epoch

-- graphs that are seen as one make one scenario
pub setting_once : {S : Type 0} (rules : Rules S) (ones others : List GuardGraph) (master : List ℕ) (liars : Hosts) → map seen ones ≡ map seen others
    → setting_by rules ones master liars ≡ setting_by rules others master liars
setting_once {S} rules ones others master liars same =
    ap (λ (scope : Scope S). record { scope = scope; liars = liars })
    (sym (scope_is_seen rules ones master) ∙ ap (λ all. scope_seen rules all master) same ∙ scope_is_seen rules others master)

-- what is answered to an end is one
pub end_once : (end : End) (x y : Answer) → IsEndAnswer end x → IsEndAnswer end y → x ≡ y
end_once (NoPacket event packet have) x y p q = p ∙ sym q
end_once (Forged event maker taker statement) x y p q = p ∙ sym q
end_once (Clash event maker taker made taken) x y p q = p ∙ sym q
end_once (PoolFull event packets bytes) x y p q = p ∙ sym q
end_once NoMemory x y p q = absurd p

-- and to an outcome
outcome_once : {S : Type 0} (telling : Telling) (setting : Setting S) (outcome : Result World End) (x y : Answer) → IsOutcomeAnswer telling setting outcome x
    → IsOutcomeAnswer telling setting outcome y → x ≡ y
outcome_once telling setting (Ok w) x y p q = p ∙ sym q
outcome_once telling setting (Err end) x y p q = end_once end x y p q

-- and to events, since they have one outcome
events_once : {S : Type 0} (telling : Telling) (setting : Setting S) (events : List Plain) (x y : Answer) → IsEventsAnswer telling setting events x
    → IsEventsAnswer telling setting events y → x ≡ y
events_once telling setting events x y p q =
    let same = happen_once setting (fresh_world setting) events p.outcome q.outcome p.happen q.happen in
    outcome_once telling setting p.outcome x y p.given (subst (λ o. IsOutcomeAnswer telling setting o y) (sym same) q.given)

-- and to a schedule
schedule_once : {S : Type 0} (telling : Telling) (setting : Setting S) (read : Result (List Plain) ScheduleFault) (x y : Answer) → IsScheduleAnswer telling setting read x
    → IsScheduleAnswer telling setting read y → x ≡ y
schedule_once telling setting (Ok events) x y p q = events_once telling setting events x y p q
schedule_once telling setting (Err fault) x y p q = p ∙ sym q

-- and to its text
text_once : {S : Type 0} (telling : Telling) (setting : Setting S) (text : List ℕ) (x y : Answer) → IsTextAnswer telling setting text x
    → IsTextAnswer telling setting text y → x ≡ y
text_once telling setting text x y p q =
    schedule_once telling setting (schedule form.Replay setting.scope.rules.hosts setting.liars text) x y p q

-- what is replayed is one
replayed_once : {S : Type 0} (telling : Telling) (rules : Rules S) (said : Said) (x y : Answer) → IsReplayed telling rules said x → IsReplayed telling rules said y → x ≡ y
replayed_once telling rules said x y p q =
    let seen_once = graphs_once said.system.hosts said.system.linked said.guarded.epochs p.graphs q.graphs p.sound.graphs_of q.sound.graphs_of in
    let same = setting_once rules p.graphs q.graphs said.guarded.master said.guarded.liars seen_once in
    text_once telling (setting_by rules p.graphs said.guarded.master said.guarded.liars) said.texts.schedule x y p.given
    (subst (λ setting. IsTextAnswer telling setting said.texts.schedule y) (sym same) q.given)

-- what `replay` answers is one
pub replay_once : {S : Type 0} (telling : Telling) (rules : Rules S) (said : Said) (x y : Answer) → IsReplayAnswer telling rules said x → IsReplayAnswer telling rules said y → x ≡ y
replay_once telling rules said x y (inl p) (inl q) = refused_once said x y p q
replay_once telling rules said x y (inl p) (inr q) = absurd (sound_not_refused said q.graphs x q.sound p)
replay_once telling rules said x y (inr p) (inl q) = absurd (sound_not_refused said p.graphs y p.sound q)
replay_once telling rules said x y (inr p) (inr q) = replayed_once telling rules said x y p q
