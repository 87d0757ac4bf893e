-- A node of which links begin.
use Rattle.std.proofs.Common.{◌≡◌, ℕ, ◌<◌, ◌==◌, Bool, true, false, cond, ◌&&◌, ◌||◌, List, refl, ap, sym, ◌∙◌, arith, lt-ltb}
use Rattle.std.specs.Prelude.{Option, Some, None}
use Rattle.std.proofs.lemmas.Bool.Decides.{Decides-eqb}
use Rattle.std.specs.Option.{option_or}
use Rattle.nys_attest.specs.Ranges.{link_at}
use Rattle.nys_rules.specs.declared.kept.Attested.{Attested}
use Rattle.nys_rules.specs.Scope.{Scope}
use Rattle.nys_rules.specs.View.{attested_from, is_attesting, is_live, next_number, View, with_links}
use Rattle.nys_source.specs.Tables.{put, put_at}
use Rattle.nys_node.specs.Linking.{begun, links_from, one_link, with_begun}
use Rattle.nys_node.specs.Means.{AreLinks, Means}
use Rattle.nys_node.specs.declared.node.Node.{Node}

-- the node with other links means the view with what they have
pub means_links : {P S : Type 0} (scope : Scope S) (node : Node P S) (links : List (List (Option Attested))) (v : View) (attested : ℕ → ℕ → Option Attested)
    → AreLinks links attested → Means scope node v → Means scope (record node { links = links }) (record v { attested = attested })
unfolding is_live next_number
means_links scope node links v attested same m = record {
  me = m.me;
  host = m.host;
  few = m.few;
  epoch = m.epoch;
  within = m.within;
  wedged = m.wedged;
  live = m.live;
  retired = m.retired;
  base = m.base;
  voted_to = m.voted_to;
  waiting = m.waiting;
  room = m.room;
  desks = m.desks;
  slots = m.slots;
  rows = m.rows;
  replicas = m.replicas;
  kept = m.kept;
  banks = m.banks;
  links = same;
  tables = m.tables;
  heard = m.heard;
}

-- a node means each view that has the same of all links between hosts below 32
pub means_as : {P S : Type 0} (scope : Scope S) (node : Node P S) (v : View) (attested : ℕ → ℕ → Option Attested)
    → ((p h : ℕ) → p < 32 → h < 32 → v.attested p h ≡ attested p h) → Means scope node v → Means scope node (record v { attested = attested })
means_as scope node v attested same m =
    means_links scope node node.links v attested (λ p h below under. m.links p h below under ∙ same p h below under) m

-- a link that began goes on
begun_again : {S : Type 0} (scope : Scope S) (v : View) (chosen : ℕ → ℕ → Bool) (p h : ℕ) → begun scope (with_begun scope chosen v) p h ≡ begun scope v p h
unfolding begun is_attesting is_live next_number
begun_again scope v chosen p h = by (chosen p h) (v.attested p h)
  where
    by : (b : Bool) (o : Option Attested) → option_or (cond b (option_or o (attested_from scope v p h)) o) (attested_from scope v p h) ≡ option_or o (attested_from scope v p h)
    by true (Some range) = refl
    by true None = settled (attested_from scope v p h)
      where
        settled : (x : Option Attested) → option_or x x ≡ x
        settled (Some range) = refl
        settled None = refl
    by false o = refl

-- links that begin after others began
pub means_both : {P S : Type 0} (scope : Scope S) (node : Node P S) (v : View) (first then both : ℕ → ℕ → Bool)
    → ((p h : ℕ) → p < 32 → h < 32 → both p h ≡ (then p h || first p h)) → Means scope node (with_begun scope then (with_begun scope first v))
    → Means scope node (with_begun scope both v)
means_both scope node v first then both tells m =
    means_as scope node (with_begun scope then (with_begun scope first v)) (λ p h. cond (both p h) (begun scope v p h) (v.attested p h)) same m
  where
    by : (a b : Bool) (x y z : Option Attested) → x ≡ y → cond a x (cond b y z) ≡ cond (a || b) y z
    by true b x y z e = e
    by false b x y z e = refl

    same : (p h : ℕ) → p < 32 → h < 32
        → cond (then p h) (begun scope (with_begun scope first v) p h) (cond (first p h) (begun scope v p h) (v.attested p h)) ≡ cond (both p h) (begun scope v p h) (v.attested p h)
    same p h below under = by (then p h) (first p h) _ _ _ (begun_again scope v first p h) ∙ ap (λ b. cond b (begun scope v p h) (v.attested p h)) (sym (tells p h below under))

-- at first no link began
pub means_none : {P S : Type 0} (scope : Scope S) (node : Node P S) (v : View) (chosen : ℕ → ℕ → Bool)
    → ((p h : ℕ) → chosen p h ≡ false) → Means scope node v → Means scope node (with_begun scope chosen v)
means_none scope node v chosen none m =
    means_as scope node v (λ p h. cond (chosen p h) (begun scope v p h) (v.attested p h))
    (λ p h below under. ap (λ b. cond b (begun scope v p h) (v.attested p h)) (sym (none p h))) m

-- in the end each link began that may
pub means_all : {P S : Type 0} (scope : Scope S) (node : Node P S) (v : View) (n : ℕ) → n ≡ 32 → Means scope node (with_begun scope (links_from n) v)
    → Means scope node (with_links scope v)
unfolding with_links begun
means_all scope node v n all m =
    means_as scope node (with_begun scope (links_from n) v) (λ p h. option_or (v.attested p h) (attested_from scope v p h))
    (λ p h below under. ap (λ b. cond b (begun scope v p h) (v.attested p h)) (lt-ltb p n (omega (arith, below, all)))) m

-- the range of one link is put
pub means_link : {P S : Type 0} (scope : Scope S) (node : Node P S) (links : List (List (Option Attested))) (p h : ℕ) (range : Option Attested)
    → ((q g : ℕ) → link_at links q g ≡ put_at (link_at node.links) p h range q g)
    → ((v : View) → Means scope node v → range ≡ begun scope v p h) → p < 32 → h < 32 → (v : View) → Means scope node v
    → Means scope (record node { links = links }) (with_begun scope (one_link p h) v)
means_link scope node links p h range changed is sender host v m =
    means_links scope node links v (λ q g. cond (one_link p h q g) (begun scope v q g) (v.attested q g)) same m
  where
    same : AreLinks links (λ q g. cond (one_link p h q g) (begun scope v q g) (v.attested q g))
    same q g below under = changed q g ∙ of_sender (q == p) refl
      where
        of_host : (b : Bool) → (g == h) ≡ b → q ≡ p → cond b range (link_at node.links p g) ≡ cond b (begun scope v q g) (v.attested q g)
        of_host true b at = is v m ∙ ap (λ x. begun scope v x h) (sym at) ∙ ap (λ y. begun scope v q y) (sym ((Decides-eqb g h).0 b))
        of_host false b at = ap (λ x. link_at node.links x g) (sym at) ∙ m.links q g below under

        of_sender : (a : Bool) → (q == p) ≡ a
            → cond a (put (link_at node.links p) h range) (link_at node.links q) g ≡ cond (a && (g == h)) (begun scope v q g) (v.attested q g)
        of_sender true a = of_host (g == h) refl ((Decides-eqb q p).0 a)
        of_sender false a = m.links q g below under
