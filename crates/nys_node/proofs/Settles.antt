-- A node that settles, rule by rule.
use Rattle.std.proofs.Common.{◌≡◌, ◌<◌, [], ◌∷◌, Some, None, refl, ap, sym, subst, ◌∙◌, append_assoc, arith}
use Rattle.std.proofs.lemmas.List.{append-nil}
use Rattle.nys_node.proofs.Falls.{falls, node_is}
use Rattle.nys_node.proofs.SoundViews.{sound_taken}
use Rattle.nys_node.specs.Means.{IsViewOf, Means}
use Rattle.nys_node.specs.Ready.{IsReady}
use Rattle.nys_node.specs.Settled.{HasSettled, IsSettling}
use Rattle.nys_node.specs.Sound.{IsScope}
use Rattle.nys_node.specs.Weight.{node_weight}
use Rattle.nys_node.specs.declared.node.Node.{Node}
use Rattle.nys_rules.proofs.DueLemmas.{due_enabled}
use Rattle.nys_rules.specs.Packets.{Acts, joined, nothing}
use Rattle.nys_rules.specs.Rules.{due}
use Rattle.nys_rules.specs.Scope.{Scope}
use Rattle.nys_rules.specs.Settling.{SettlesInto}
use Rattle.nys_rules.specs.Taking.{acts_of, taken}
use Rattle.nys_rules.specs.View.{View}
use Rattle.nys_rules.specs.declared.rule.Rule.{Rule}

-- nothing more is done
pub joined_nothing : (a : Acts) → joined a nothing ≡ a
joined_nothing a = rw (append-nil a.made) (rw (append-nil a.packets) (rw (append-nil a.grew) refl))

-- parts are put together in any order
pub joined_assoc : (a b c : Acts) → joined (joined a b) c ≡ joined a (joined b c)
joined_assoc a b c = rw (append_assoc a.made b.made c.made) (rw (append_assoc a.packets b.packets c.packets) (rw (append_assoc a.grew b.grew c.grew) refl))

-- before the first rule
pub settling_begins : {P S : Type 0} (scope : Scope S) (node : Node P S) (v : View) (before : Acts) → IsViewOf scope node v → IsSettling scope node v before before
settling_begins scope node v before is = record {
  view = v;
  is = is;
  did = nothing;
  acts = sym (joined_nothing before);
  goes = λ rules after rest s. record { rules = rules; settles = s };
}

-- one rule more is taken
pub settling_goes_on : {P S : Type 0} (scope : Scope S) → IsScope scope → (node next : Node P S) (v : View) (before now later : Acts) (rule : Rule)
    → (i : IsSettling scope node v before now) → Some rule ≡ due scope i.view → Means scope next (taken scope i.view rule)
    → later ≡ joined now (acts_of scope i.view rule) → IsSettling scope next v before later
settling_goes_on scope is node next v before now later rule i first means more = record {
  view = taken scope i.view rule;
  is = record { means = means; sound = sound_taken scope is i.view rule (sym first) i.is.sound };
  did = joined i.did (acts_of scope i.view rule);
  acts = more ∙ ap (λ a. joined a (acts_of scope i.view rule)) i.acts ∙ joined_assoc before i.did (acts_of scope i.view rule);
  goes = λ rules after rest s. subst (SettlesInto scope v after) (sym (joined_assoc i.did (acts_of scope i.view rule) rest))
      (i.goes (rule ∷ rules) after (joined (acts_of scope i.view rule) rest) (sym first, (rest, s, refl)));
}

-- no rule is due any more
pub settling_ends : {P S : Type 0} (scope : Scope S) (node : Node P S) (v : View) (before now : Acts) (i : IsSettling scope node v before now)
    → None ≡ due scope i.view → HasSettled scope node v before now
settling_ends scope node v before now i none = record {
  after = i.view;
  is = i.is;
  rest = i.did;
  settles = subst (SettlesInto scope v i.view) (joined_nothing i.did) (i.goes [] i.view nothing (sym none, refl, refl));
  acts = i.acts;
}

-- the rule that is due may be taken
pub settling_ready : {P S : Type 0} (scope : Scope S) (node : Node P S) (v : View) (rule : Rule) → IsViewOf scope node v → Some rule ≡ due scope v
    → IsReady scope node rule
settling_ready scope node v rule is first = let both = due_enabled scope v rule (sym first) in
    record { view = v; is = is; hosts = both.0; enabled = both.1 }

-- the node weighs less once it took the rule
pub settling_falls : {P S : Type 0} (scope : Scope S) → IsScope scope → (node next : Node P S) (v : View) (rule : Rule) → IsViewOf scope node v
    → Some rule ≡ due scope v → Means scope next (taken scope v rule) → node_weight next < node_weight node
settling_falls scope is node next v rule view first means = let both = due_enabled scope v rule (sym first) in
    omega (
      arith,
      node_is scope node v view.means,
      node_is scope next (taken scope v rule) means,
      falls scope is v view.sound view.means.within rule both.0 both.1,
    )
