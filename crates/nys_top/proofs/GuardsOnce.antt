-- What is answered about the guards of a document is one thing.
use Rattle.std.proofs.Common.{◌≡◌, ℕ, zero, suc, ◌+◌, Bool, List, [], ◌∷◌, ◌++◌, length, map, Option, Some, None, refl, sym, ap, subst, ◌∙◌, inl, inr, ◌⊎◌, arith}
use Rattle.std.proofs.lemmas.List.Elements.{All-cons, All-head, All-nil, All-tail}
use Rattle.std.specs.List.{range_with_len}
use Rattle.std.specs.Prelude.{All, codes, flat_map}
use Rattle.nys_answer.specs.Lines.{line_answer}
use Rattle.nys_answer.specs.declared.answer.Answer.{Answer}
use Rattle.nys_answer.specs.declared.status.Status.TheVariants.{Done, Liars}
use Rattle.nys_guard_commands.specs.Checked.{AreSound, IsCheckAnswer, IsRefused}
use Rattle.nys_guard_commands.specs.Graphs.{AreGraphsOf, IsEpochAnswer, IsGraphOf, IsGuardsAnswer, thresholds_of}
use Rattle.nys_guard_commands.specs.Liars.{IsLiarsAnswer, IsLiarsAt, Stands}
use Rattle.nys_guard_commands.specs.Planned.{epoch_line, host_line, IsPlanAnswer, lines_from, plan_answer, unlisted}
use Rattle.nys_guard_commands.specs.Words.{guards_answer, liars_answer, numbered}
use Rattle.nys_guards.specs.Faults.{IsFirstTooMany}
use Rattle.nys_guards.specs.Good.{AreWithin, guards_in, threshold_in}
use Rattle.nys_guards.specs.declared.table.GuardGraph.{GuardGraph}
use Rattle.nys_scenario.specs.Document.{Said}
use Rattle.nys_scenario.specs.Epochs.{Epoch}
use Rattle.nys_scenario.specs.Hosts.{Hosts}
use Rattle.nys_top.proofs.PlanOnce.{fault_once, guards_once, no_fault, too_many_once, within_none}

-- what definitions see of a guard graph
pub record Seen : Type 0 where
  pub t : ℕ → ℕ
  pub credit : ℕ
  pub guards : ℕ → ℕ → Bool

-- a guard graph as it is seen
abbrev pub seen : GuardGraph → Seen
seen graph = record { t = threshold_in graph.t; credit = graph.credit; guards = guards_in graph.guards }

-- the graph of an epoch is seen as one
graph_once : (hosts : ℕ) (linked : ℕ → ℕ → Bool) (epoch : Epoch) (a b : GuardGraph) → IsGraphOf hosts linked epoch a
    → IsGraphOf hosts linked epoch b → seen a ≡ seen b
graph_once hosts linked epoch a b p q =
    let t = p.t ∙ sym q.t in
    let credit = p.credit ∙ sym q.credit in
    let guards = guards_once hosts linked (thresholds_of hosts epoch) epoch.guards (guards_in a.guards) (guards_in b.guards) p.guards q.guards in
    λ i. record { t = t i; credit = credit i; guards = guards i }

-- so are those of all epochs
pub graphs_once : (hosts : ℕ) (linked : ℕ → ℕ → Bool) (epochs : List Epoch) (ones others : List GuardGraph) → AreGraphsOf hosts linked epochs ones
    → AreGraphsOf hosts linked epochs others → map seen ones ≡ map seen others
graphs_once hosts linked [] [] [] p q = refl
graphs_once hosts linked [] [] (b ∷ others) p q = absurd q
graphs_once hosts linked [] (a ∷ ones) others p q = absurd p
graphs_once hosts linked (epoch ∷ epochs) [] others p q = absurd p
graphs_once hosts linked (epoch ∷ epochs) (a ∷ ones) [] p q = absurd q
graphs_once hosts linked (epoch ∷ epochs) (a ∷ ones) (b ∷ others) p q =
    ap (λ x. x ∷ map seen ones) (graph_once hosts linked epoch a b p.0 q.0)
    ∙ ap (λ xs. seen b ∷ xs) (graphs_once hosts linked epochs ones others p.1 q.1)

-- ---- the answer to guards that are refused

-- an epoch whose guards are good has no answer
good_epoch : (hosts : ℕ) (linked : ℕ → ℕ → Bool) (e : ℕ) (epoch : Epoch) (graph : GuardGraph) (answer : Answer)
    → IsGraphOf hosts linked epoch graph → IsEpochAnswer hosts linked e epoch answer → ⊥
good_epoch hosts linked e epoch graph answer is here =
    no_fault hosts linked (thresholds_of hosts epoch) epoch.credit epoch.guards (guards_in graph.guards) here.fault is.guards is.good here.found

-- the answer to an epoch is one
epoch_once : (hosts : ℕ) (linked : ℕ → ℕ → Bool) (e : ℕ) (epoch : Epoch) (x y : Answer) → IsEpochAnswer hosts linked e epoch x
    → IsEpochAnswer hosts linked e epoch y → x ≡ y
epoch_once hosts linked e epoch x y p q =
    p.text
    ∙ ap (guards_answer e) (fault_once hosts linked (thresholds_of hosts epoch) epoch.credit epoch.guards p.fault q.fault p.found q.found)
    ∙ sym q.text

-- the first epoch of good ones has a graph
first_good : (hosts : ℕ) (linked : ℕ → ℕ → Bool) (epoch : Epoch) (epochs : List Epoch) (graphs : List GuardGraph)
    → AreGraphsOf hosts linked (epoch ∷ epochs) graphs
    → ((graph : GuardGraph) × IsGraphOf hosts linked epoch graph) × ((rest : List GuardGraph) × AreGraphsOf hosts linked epochs rest)
first_good hosts linked epoch epochs [] are = absurd are
first_good hosts linked epoch epochs (graph ∷ graphs) are = ((graph, are.0), (graphs, are.1))

-- two answers to epochs that are cut twice, each before the first whose guards are refused, are one
cut_once : (hosts : ℕ) (linked : ℕ → ℕ → Bool) (n : ℕ) (xs ys ends rest : List Epoch) (a b : Epoch) (ones others : List GuardGraph) (x y : Answer)
    → xs ++ a ∷ ends ≡ ys ++ b ∷ rest → AreGraphsOf hosts linked xs ones → AreGraphsOf hosts linked ys others
    → IsEpochAnswer hosts linked (n + length xs) a x → IsEpochAnswer hosts linked (n + length ys) b y → x ≡ y
cut_once hosts linked n [] [] ends rest a b ones others x y e p q here there =
    let same : a ≡ b = cc in
    epoch_once hosts linked (n + 0) a x y here (subst (λ z. IsEpochAnswer hosts linked (n + 0) z y) (sym same) there)
cut_once hosts linked n [] (d ∷ ys) ends rest a b ones others x y e p q here there =
    let same : a ≡ d = cc in
    let graph = (first_good hosts linked d ys others q).0 in
    absurd (good_epoch hosts linked (n + 0) a graph.0 x (subst (λ z. IsGraphOf hosts linked z graph.0) (sym same) graph.1) here)
cut_once hosts linked n (c ∷ xs) [] ends rest a b ones others x y e p q here there =
    let same : c ≡ b = cc in
    let graph = (first_good hosts linked c xs ones p).0 in
    absurd (good_epoch hosts linked (n + 0) b graph.0 y (subst (λ z. IsGraphOf hosts linked z graph.0) same graph.1) there)
cut_once hosts linked n (c ∷ xs) (d ∷ ys) ends rest a b ones others x y e p q here there =
    let tails : xs ++ a ∷ ends ≡ ys ++ b ∷ rest = cc in
    let first = (first_good hosts linked c xs ones p).1 in
    let second = (first_good hosts linked d ys others q).1 in
    let left : n + suc (length xs) ≡ n + 1 + length xs = omega arith in
    let right : n + suc (length ys) ≡ n + 1 + length ys = omega arith in
    cut_once hosts linked (n + 1) xs ys ends rest a b first.0 second.0 x y tails first.1 second.1
    (subst (λ m. IsEpochAnswer hosts linked m a x) left here) (subst (λ m. IsEpochAnswer hosts linked m b y) right there)

-- what is answered to guards that are refused is one
refusal_once : (hosts : ℕ) (linked : ℕ → ℕ → Bool) (epochs : List Epoch) (x y : Answer) → IsGuardsAnswer hosts linked epochs x
    → IsGuardsAnswer hosts linked epochs y → x ≡ y
refusal_once hosts linked epochs x y p q =
    let left : length p.before ≡ 0 + length p.before = omega arith in
    let right : length q.before ≡ 0 + length q.before = omega arith in
    cut_once hosts linked 0 p.before q.before p.after q.after p.epoch q.epoch p.graphs q.graphs x y (sym p.split ∙ q.split) p.good q.good
    (subst (λ m. IsEpochAnswer hosts linked m p.epoch x) left p.here) (subst (λ m. IsEpochAnswer hosts linked m q.epoch y) right q.here)

-- among good ones no epoch is refused
good_among : (hosts : ℕ) (linked : ℕ → ℕ → Bool) (e : ℕ) (before after : List Epoch) (epoch : Epoch) (graphs : List GuardGraph) (x : Answer)
    → AreGraphsOf hosts linked (before ++ epoch ∷ after) graphs → IsEpochAnswer hosts linked e epoch x → ⊥
good_among hosts linked e [] after epoch graphs x are here =
    let graph = (first_good hosts linked epoch after graphs are).0 in good_epoch hosts linked e epoch graph.0 x graph.1 here
good_among hosts linked e (b ∷ before) after epoch graphs x are here =
    let rest = (first_good hosts linked b (before ++ epoch ∷ after) graphs are).1 in
    good_among hosts linked e before after epoch rest.0 x rest.1 here

-- where all are good, none is refused
good_not_refused : (hosts : ℕ) (linked : ℕ → ℕ → Bool) (epochs : List Epoch) (graphs : List GuardGraph) (x : Answer)
    → AreGraphsOf hosts linked epochs graphs → IsGuardsAnswer hosts linked epochs x → ⊥
good_not_refused hosts linked epochs graphs x are refused =
    good_among hosts linked (length refused.before) refused.before refused.after refused.epoch graphs x
    (subst (λ l. AreGraphsOf hosts linked l graphs) refused.split are) refused.here

-- ---- the answer to liars that are too many

-- graphs that are seen as one stand the same liars
stands_as : (hosts : ℕ) (liars : Hosts) (a b : GuardGraph) → seen a ≡ seen b → Stands hosts liars a → Stands hosts liars b
stands_as hosts liars a b same stands =
    record { within = subst (λ (s : Seen). AreWithin hosts s.t s.guards liars) same stands.within }

-- and have the same first host with too many
many_as : (hosts : ℕ) (liars : Hosts) (e : ℕ) (a b : GuardGraph) (x : Answer) → seen a ≡ seen b → IsLiarsAt hosts liars e a x → IsLiarsAt hosts liars e b x
many_as hosts liars e a b x same here = record {
  fault = here.fault;
  found = subst (λ (s : Seen). IsFirstTooMany hosts s.t s.guards liars here.fault) same here.found;
  text = here.text;
}

-- a graph that stands the liars has no answer
stands_clean : (hosts : ℕ) (liars : Hosts) (e : ℕ) (graph : GuardGraph) (x : Answer) → Stands hosts liars graph → IsLiarsAt hosts liars e graph x → ⊥
stands_clean hosts liars e graph x stands here =
    within_none hosts (threshold_in graph.t) (guards_in graph.guards) liars here.fault stands.within here.found

-- the answer to a graph is one
liars_at_once : (hosts : ℕ) (liars : Hosts) (e : ℕ) (graph : GuardGraph) (x y : Answer) → IsLiarsAt hosts liars e graph x
    → IsLiarsAt hosts liars e graph y → x ≡ y
liars_at_once hosts liars e graph x y p q =
    let same = too_many_once hosts (threshold_in graph.t) (guards_in graph.guards) liars p.fault q.fault p.found q.found in
    p.text
    ∙ ap (λ h. line_answer Liars (numbered (codes "liars: epoch ") e ++ numbered (codes ": host ") h ++ numbered (codes " has ") p.fault.1)) same.0
    ∙ ap (λ n. line_answer Liars (numbered (codes "liars: epoch ") e ++ numbered (codes ": host ") q.fault.0 ++ numbered (codes " has ") n)) same.1
    ∙ sym q.text

-- two answers to graphs that are cut twice, each before the first that has too many liars, are one
liars_cut_once : (hosts : ℕ) (liars : Hosts) (n : ℕ) (xs ys ends rest : List GuardGraph) (a b : GuardGraph) (x y : Answer)
    → map seen (xs ++ a ∷ ends) ≡ map seen (ys ++ b ∷ rest) → All (Stands hosts liars) xs → All (Stands hosts liars) ys
    → IsLiarsAt hosts liars (n + length xs) a x → IsLiarsAt hosts liars (n + length ys) b y → x ≡ y
liars_cut_once hosts liars n [] [] ends rest a b x y e p q here there =
    let same : seen a ≡ seen b = cc in
    liars_at_once hosts liars (n + 0) b x y (many_as hosts liars (n + 0) a b x same here) there
liars_cut_once hosts liars n [] (d ∷ ys) ends rest a b x y e p q here there =
    let same : seen a ≡ seen d = cc in
    absurd (stands_clean hosts liars (n + 0) d x (All-head (Stands hosts liars) d ys q) (many_as hosts liars (n + 0) a d x same here))
liars_cut_once hosts liars n (c ∷ xs) [] ends rest a b x y e p q here there =
    let same : seen c ≡ seen b = cc in
    absurd (stands_clean hosts liars (n + 0) b y (stands_as hosts liars c b same (All-head (Stands hosts liars) c xs p)) there)
liars_cut_once hosts liars n (c ∷ xs) (d ∷ ys) ends rest a b x y e p q here there =
    let tails : map seen (xs ++ a ∷ ends) ≡ map seen (ys ++ b ∷ rest) = cc in
    let left : n + suc (length xs) ≡ n + 1 + length xs = omega arith in
    let right : n + suc (length ys) ≡ n + 1 + length ys = omega arith in
    liars_cut_once hosts liars (n + 1) xs ys ends rest a b x y tails (All-tail (Stands hosts liars) c xs p) (All-tail (Stands hosts liars) d ys q)
    (subst (λ m. IsLiarsAt hosts liars m a x) left here) (subst (λ m. IsLiarsAt hosts liars m b y) right there)

-- what is answered to liars that are too many is one
liars_once : (hosts : ℕ) (liars : Hosts) (ones others : List GuardGraph) (x y : Answer) → map seen ones ≡ map seen others
    → IsLiarsAnswer hosts liars ones x → IsLiarsAnswer hosts liars others y → x ≡ y
liars_once hosts liars ones others x y same p q =
    let left : length p.before ≡ 0 + length p.before = omega arith in
    let right : length q.before ≡ 0 + length q.before = omega arith in
    liars_cut_once hosts liars 0 p.before q.before p.after q.after p.graph q.graph x y
    (ap (map seen) (sym p.split) ∙ same ∙ ap (map seen) q.split) p.stand q.stand
    (subst (λ m. IsLiarsAt hosts liars m p.graph x) left p.here) (subst (λ m. IsLiarsAt hosts liars m q.graph y) right q.here)

-- among graphs that stand the liars none has too many
stands_among : (hosts : ℕ) (liars : Hosts) (e : ℕ) (ones before after : List GuardGraph) (graph : GuardGraph) (x : Answer)
    → map seen ones ≡ map seen (before ++ graph ∷ after) → All (Stands hosts liars) ones → IsLiarsAt hosts liars e graph x → ⊥
stands_among hosts liars e [] [] after graph x same stand here = absurd (cc)
stands_among hosts liars e [] (b ∷ before) after graph x same stand here = absurd (cc)
stands_among hosts liars e (a ∷ ones) [] after graph x same stand here =
    let first : seen a ≡ seen graph = cc in
    stands_clean hosts liars e graph x (stands_as hosts liars a graph first (All-head (Stands hosts liars) a ones stand)) here
stands_among hosts liars e (a ∷ ones) (b ∷ before) after graph x same stand here =
    let tails : map seen ones ≡ map seen (before ++ graph ∷ after) = cc in
    stands_among hosts liars e ones before after graph x tails (All-tail (Stands hosts liars) a ones stand) here

-- ---- what commands answer

-- where all is sound, nothing is refused
pub sound_not_refused : (said : Said) (graphs : List GuardGraph) (x : Answer) → AreSound said graphs → IsRefused said x → ⊥
sound_not_refused said graphs x sound (inl guards) =
    good_not_refused said.system.hosts said.system.linked said.guarded.epochs graphs x sound.graphs_of guards
sound_not_refused said graphs x sound (inr many) =
    let same = graphs_once said.system.hosts said.system.linked said.guarded.epochs graphs many.graphs sound.graphs_of many.graphs_of in
    let liars = many.liars in
    stands_among said.system.hosts said.guarded.liars (length liars.before) graphs liars.before liars.after liars.graph x
    (same ∙ ap (map seen) liars.split) sound.stand liars.here

-- a refusal is one
pub refused_once : (said : Said) (x y : Answer) → IsRefused said x → IsRefused said y → x ≡ y
refused_once said x y (inl p) (inl q) = refusal_once said.system.hosts said.system.linked said.guarded.epochs x y p q
refused_once said x y (inl p) (inr q) = absurd (good_not_refused said.system.hosts said.system.linked said.guarded.epochs q.graphs x q.graphs_of p)
refused_once said x y (inr p) (inl q) = absurd (good_not_refused said.system.hosts said.system.linked said.guarded.epochs p.graphs y p.graphs_of q)
refused_once said x y (inr p) (inr q) =
    liars_once said.system.hosts said.guarded.liars p.graphs q.graphs x y
    (graphs_once said.system.hosts said.system.linked said.guarded.epochs p.graphs q.graphs p.graphs_of q.graphs_of) p.liars q.liars

-- what `check` answers is one
pub check_once : (said : Said) (x y : Answer) → IsCheckAnswer said x → IsCheckAnswer said y → x ≡ y
check_once said x y (inl p) (inl q) = refused_once said x y p q
check_once said x y (inl p) (inr q) = absurd (sound_not_refused said q.graphs x q.sound p)
check_once said x y (inr p) (inl q) = absurd (sound_not_refused said p.graphs y p.sound q)
check_once said x y (inr p) (inr q) = p.text ∙ sym q.text

-- the lines of one epoch, by how its graph is seen
abbrev lines_seen : ℕ → ℕ → ℕ → Seen → List ℕ
lines_seen hosts e t s = epoch_line e t s.credit ++ flat_map (host_line s.guards) (range_with_len 0 hosts)

-- graphs that are seen as one have the same lines
lines_once : (hosts e : ℕ) (epochs : List Epoch) (ones others : List GuardGraph) → map seen ones ≡ map seen others
    → lines_from hosts e epochs ones ≡ lines_from hosts e epochs others
lines_once hosts e [] ones others same = refl
lines_once hosts e (epoch ∷ epochs) [] [] same = refl
lines_once hosts e (epoch ∷ epochs) [] (b ∷ others) same = absurd (cc)
lines_once hosts e (epoch ∷ epochs) (a ∷ ones) [] same = absurd (cc)
lines_once hosts e (epoch ∷ epochs) (a ∷ ones) (b ∷ others) same =
    let first : seen a ≡ seen b = cc in
    let tails : map seen ones ≡ map seen others = cc in
    ap (λ (s : Seen). lines_seen hosts e epoch.t s ++ lines_from hosts (e + 1) epochs ones) first
    ∙ ap (λ l. lines_seen hosts e epoch.t (seen b) ++ l) (lines_once hosts (e + 1) epochs ones others tails)

-- what `plan` answers is one
pub plan_once : (said : Said) (x y : Answer) → IsPlanAnswer said x → IsPlanAnswer said y → x ≡ y
plan_once said x y (inl p) (inl q) = refusal_once said.system.hosts said.system.linked (map unlisted said.guarded.epochs) x y p q
plan_once said x y (inl p) (inr q) =
    absurd (good_not_refused said.system.hosts said.system.linked (map unlisted said.guarded.epochs) q.graphs x q.planned p)
plan_once said x y (inr p) (inl q) =
    absurd (good_not_refused said.system.hosts said.system.linked (map unlisted said.guarded.epochs) p.graphs y p.planned q)
plan_once said x y (inr p) (inr q) =
    let same = graphs_once said.system.hosts said.system.linked (map unlisted said.guarded.epochs) p.graphs q.graphs p.planned q.planned in
    p.text
    ∙ ap (λ l. record { status = Done; text = l ++ codes "end\n" }) (lines_once said.system.hosts 0 said.guarded.epochs p.graphs q.graphs same)
    ∙ sym q.text
