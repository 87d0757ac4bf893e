-- Nodes in their places, of which one is taken out and put back after it did something.
use Rattle.std.proofs.Common.{◌≡◌, ◌≢◌, ℕ, ◌<◌, ◌&&◌, Bool, true, false, List, not, Some, None, Ok, refl, ap, sym, subst, ◌∙◌, inl, inr, arith}
use Rattle.std.proofs.lemmas.Bool.{cases_eq, lt-ltb, ne_eqb}
use Rattle.std.proofs.lemmas.List.{length-set}
use Rattle.std.specs.Prelude.{IfNone, IfSome, Option, nat_lt, slice_get, slice_set}
use Rattle.circular_buffer.proofs.Places.{slice_get-set_other, slice_get-set_same, slice_get-some}
use Rattle.nys_agreement.proofs.TableLemmas.{put_here, put_there}
use Rattle.nys_node.specs.Means.{IsViewOf}
use Rattle.nys_node.specs.declared.node.Node.{Node}
use Rattle.nys_olympus.specs.Means as olympus
use Rattle.nys_rules.proofs.WorldFrames.{after_node_ok, after_olympus_ok, unless_forged_ok}
use Rattle.nys_rules.specs.declared.cause.DropCause.{DropCause}
use Rattle.nys_rules.specs.declared.notice.NoteKind.TheVariants as tell
use Rattle.nys_rules.specs.Happening.{UnlessForged, with_full_note}
use Rattle.nys_rules.specs.Olympus.{OlympusView}
use Rattle.nys_rules.specs.Packets.{Done}
use Rattle.nys_rules.specs.View.{View}
use Rattle.nys_rules.specs.World.{after_node, after_olympus, is_honest, Setting, with_note, World}
use Rattle.nys_sending.proofs.TableLemmas.{same_found}
use Rattle.nys_source.specs.Tables.{put}
use Rattle.nys_stmt.specs.declared.statement.Statement.{Statement}
use Rattle.nys_world.specs.Given.{HasNode}
use Rattle.nys_world.specs.Shows.{AreNodes, AreTakes, is_honest_host, IsNodeOf, Keeps, Shows}
use Rattle.nys_world.specs.declared.books.Books.{Books}
use Rattle.nys_world.specs.declared.moment.Moment.{Moment}

-- two tests of which the first is part of the second
twice : (a b : Bool) → (a && (a && b)) ≡ (a && b)
twice true b = refl
twice false b = refl

-- below the number of hosts an honest host is an honest party
pub honest_low : {S : Type 0} (setting : Setting S) (g : ℕ) (told : Bool) → g < setting.scope.rules.hosts
    → told ≡ (nat_lt g setting.scope.rules.hosts && is_honest setting g) → told ≡ is_honest setting g
honest_low setting g told below is =
    is ∙ ap (λ b. b && is_honest setting g) (lt-ltb g setting.scope.rules.hosts below)

-- so is any number but that of the Olympus
pub honest_other : {S : Type 0} (setting : Setting S) (g : ℕ) (told : Bool) → g ≢ 32
    → told ≡ (nat_lt g setting.scope.rules.hosts && is_honest setting g) → told ≡ is_honest setting g
honest_other setting g told other is =
    is ∙ ap (λ b. nat_lt g setting.scope.rules.hosts && b) (sym same) ∙ twice (nat_lt g setting.scope.rules.hosts) (not (setting.liars g)) ∙ same
  where
    same : (nat_lt g setting.scope.rules.hosts && not (setting.liars g)) ≡ is_honest setting g
    same = rw (ne_eqb g 32 other) refl

-- the node of an honest host stands in its place
pub has_node : {P S : Type 0} (setting : Setting S) (nodes : List (Option (Node P S))) (w : World) (g : ℕ) → AreNodes setting nodes w
    → g < 32 → is_honest setting g ≡ true → HasNode nodes g
has_node {P} {S} setting nodes w g are below honest =
    let there = slice_get-some nodes g (omega (arith, are.size, below)) in by there.0 there.1
  where
    by : (node : Option (Node P S)) → slice_get nodes g ≡ Some node → HasNode nodes g
    by None at = absurd (let lies = are.each g None at in cc)
    by (Some node) at = (node, at)

-- the place of an honest host isn't empty
pub place_empty : {P S : Type 0} (setting : Setting S) (nodes : List (Option (Node P S))) (w : World) (g : ℕ) → AreNodes setting nodes w
    → is_honest setting g ≡ true → slice_get nodes g ≡ Some None → ⊥
place_empty setting nodes w g are honest at = let lies = are.each g None at in absurd (cc)

-- the node that stands in the place of an honest host has the view that the world has
pub node_there : {P S : Type 0} (setting : Setting S) (nodes : List (Option (Node P S))) (w : World) (g : ℕ) (node : Node P S)
    → AreNodes setting nodes w → slice_get nodes g ≡ Some (Some node) → IsViewOf setting.scope node (w.nodes g)
node_there setting nodes w g node are at = (are.each g (Some node) at).1

-- a node of one world is that of another that has the same view of its host
node_same : {P S : Type 0} (setting : Setting S) (w next : World) (g : ℕ) (node : Option (Node P S)) → next.nodes g ≡ w.nodes g
    → IsNodeOf setting w g node → IsNodeOf setting next g node
node_same setting w next g None same is = is
node_same setting w next g (Some node) same is = (is.0, subst (IsViewOf setting.scope node) (sym same) is.1)

-- the nodes of one world are those of another that has each view
pub nodes_alike : {P S : Type 0} (setting : Setting S) (nodes : List (Option (Node P S))) (w next : World)
    → ((g : ℕ) → next.nodes g ≡ w.nodes g) → AreNodes setting nodes w → AreNodes setting nodes next
nodes_alike setting nodes w next same are = record {
  size = are.size;
  each = λ g node at. node_same setting w next g node (same g) (are.each g node at);
}

-- or that has the same views
nodes_same : {P S : Type 0} (setting : Setting S) (nodes : List (Option (Node P S))) (w next : World) → next.nodes ≡ w.nodes
    → AreNodes setting nodes w → AreNodes setting nodes next
nodes_same setting nodes w next same are = record {
  size = are.size;
  each = λ g node at. node_same setting w next g node (ap (λ (views : ℕ → View). views g) same) (are.each g node at);
}

-- the nodes after the one in a place did something, and has another view
nodes_put : {P S : Type 0} (setting : Setting S) (nodes : List (Option (Node P S))) (w next : World) (g : ℕ) (node : Node P S) (v : View)
    → g < 32 → is_honest setting g ≡ true → IsViewOf setting.scope node v → next.nodes ≡ put w.nodes g v → AreNodes setting nodes w
    → AreNodes setting (slice_set nodes g (Some node)) next
nodes_put {P} {S} setting nodes w next g node v below honest is views are = record {
  size = length-set nodes g (Some node) ∙ are.size;
  each = λ k item at. elim (cases_eq k g) [
    | inl e ↦ here k item at e
    | inr ne ↦ node_same setting w next k item (ap (λ (f : ℕ → View). f k) views ∙ put_there w.nodes g v k ne)
        (are.each k item (sym (slice_get-set_other nodes g k (Some node) ne) ∙ at))
  ];
}
  where
    here : (k : ℕ) (item : Option (Node P S)) → slice_get (slice_set nodes g (Some node)) k ≡ Some item → k ≡ g → IsNodeOf setting next k item
    here k item at e =
        subst (λ z. IsNodeOf setting next z item) (sym e)
        (subst (IsNodeOf setting next g)
        (sym (same_found (slice_get (slice_set nodes g (Some node)) g) (Some node) item
        (slice_get-set_same nodes g (Some node) (omega (arith, are.size, below)))
        (subst (λ z. slice_get (slice_set nodes g (Some node)) z ≡ Some item) e at)))
        (honest, subst (IsViewOf setting.scope node) (sym (ap (λ (f : ℕ → View). f g) views ∙ put_here w.nodes g v)) is))

-- what a node that did something changes beside the books: its own view
abbrev pub IsActed : ℕ → View → (w next : World) → Type 0
IsActed g v w next = (next.nodes ≡ put w.nodes g v) × (next.olympus ≡ w.olympus) × (next.takes ≡ w.takes)

-- all that a world has is shown where one node did something
pub shows_put : {P S : Type 0} (setting : Setting S) (traced : Bool) (moment after : Moment P S) (g : ℕ) (node : Node P S) (v : View) (w told next : World)
    → g < 32 → is_honest setting g ≡ true → IsViewOf setting.scope node v → told.nodes ≡ w.nodes → told.olympus ≡ w.olympus
    → IsActed g v told next → after.nodes.items ≡ slice_set moment.nodes.items g (Some node) → after.olympus ≡ moment.olympus
    → Keeps after.books next → AreTakes traced after.takes.items told.takes → Shows setting traced moment w → Shows setting traced after next
shows_put setting traced moment after g node v w told next below honest is views view acted put same keeps takes shows = record {
  nodes = subst (λ items. AreNodes setting items next) (sym put)
      (nodes_put setting moment.nodes.items told next g node v below honest is acted.0
      (nodes_same setting moment.nodes.items w told views shows.nodes));
  olympus = subst (λ o. olympus.IsViewOf setting.scope o next.olympus) (sym same)
      (subst (olympus.IsViewOf setting.scope moment.olympus) (sym (acted.1 ∙ view)) shows.olympus);
  books = keeps;
  takes = subst (AreTakes traced after.takes.items) (sym acted.2) takes;
}

-- where the Olympus did something
pub shows_olympus : {P S : Type 0} (setting : Setting S) (traced : Bool) (moment after : Moment P S) (o : OlympusView) (w next : World)
    → olympus.IsViewOf setting.scope after.olympus o → next.nodes ≡ w.nodes → next.olympus ≡ o
    → after.nodes.items ≡ moment.nodes.items → Keeps after.books next → AreTakes traced after.takes.items next.takes
    → Shows setting traced moment w → Shows setting traced after next
shows_olympus setting traced moment after o w next is views view same keeps takes shows = record {
  nodes = subst (λ items. AreNodes setting items next) (sym same) (nodes_same setting moment.nodes.items w next views shows.nodes);
  olympus = subst (olympus.IsViewOf setting.scope after.olympus) (sym view) is;
  books = keeps;
  takes = takes;
}

-- where something was written in the books alone
pub shows_books : {P S : Type 0} (setting : Setting S) (traced : Bool) (moment : Moment P S) (books : Books) (w next : World)
    → next.nodes ≡ w.nodes → next.olympus ≡ w.olympus → next.takes ≡ w.takes → Keeps books next
    → Shows setting traced moment w → Shows setting traced (record moment { books = books }) next
shows_books setting traced moment books w next views view takes keeps shows = record {
  nodes = nodes_same setting moment.nodes.items w next views shows.nodes;
  olympus = subst (olympus.IsViewOf setting.scope moment.olympus) (sym view) shows.olympus;
  books = keeps;
  takes = subst (AreTakes traced moment.takes.items) (sym takes) shows.takes;
}

-- a node that acted has its new view, and no other party changed
pub acted_frame : (g : ℕ) (v : View) (done : Done) (w next : World) → Ok next ≡ after_node g v done w → IsActed g v w next
acted_frame g v done w next e =
    let is = after_node_ok g v done w next (sym e) in
    (ap (λ (z : World). z.nodes) is, ap (λ (z : World). z.olympus) is, ap (λ (z : World). z.takes) is)

-- the same where it took a record that wasn't forged
pub took_frame : {S : Type 0} (setting : Setting S) (g : ℕ) (v : View) (done : Done) (w next : World) (said : Option Statement) (makers : List ℕ)
    → UnlessForged setting w g said makers (after_node g v done w) (Ok next) → IsActed g v w next
took_frame setting g v done w next said makers ends =
    acted_frame g v done w next (sym (unless_forged_ok setting w g said makers (after_node g v done w) next ends).1)

-- the Olympus that took a record has its new view, and no node changed
pub olympus_frame : {S : Type 0} (setting : Setting S) (taker : ℕ) (o : OlympusView) (done : Done) (w next : World) (said : Option Statement) (makers : List ℕ)
    → UnlessForged setting w taker said makers (after_olympus o done w) (Ok next)
    → (next.nodes ≡ w.nodes) × (next.olympus ≡ o) × (next.takes ≡ w.takes)
olympus_frame setting taker o done w next said makers ends =
    let is = after_olympus_ok o done w next (unless_forged_ok setting w taker said makers (after_olympus o done w) next ends).1 in
    (ap (λ (z : World). z.nodes) is, ap (λ (z : World). z.olympus) is, ap (λ (z : World). z.takes) is)

-- the same where it is told that an input found no room
pub handed_frame : (g : ℕ) (v : View) (done : Done) (dropped : Option DropCause) (w next : World)
    → Ok next ≡ after_node g v done (with_full_note g dropped w) → IsActed g v w next
handed_frame g v done None w next e = acted_frame g v done w next e
handed_frame g v done (Some cause) w next e = acted_frame g v done (with_note (tell.QueueFull g) w) next e

-- below 32 an honest host is an honest party, and no other host is
pub honest_party : {S : Type 0} (setting : Setting S) (g : ℕ) → g < 32 → is_honest setting g ≡ is_honest_host setting g
honest_party setting g below = rw (ne_eqb g 32 (λ e. absurd (omega (arith, e, below)))) refl

-- a node that stands in a place is that of an honest host
pub node_found : {P S : Type 0} (setting : Setting S) (nodes : List (Option (Node P S))) (w : World) (h : ℕ) (node : Node P S) → h < 32
    → AreNodes setting nodes w → slice_get nodes h ≡ Some (Some node)
    → (is_honest_host setting h ≡ true) × IsViewOf setting.scope node (w.nodes h)
node_found setting nodes w h node below are at =
    (sym (honest_party setting h below) ∙ (are.each h (Some node) at).0, (are.each h (Some node) at).1)

-- where none stands the host lies, or there is no such host
pub none_found : {P S : Type 0} (setting : Setting S) (nodes : List (Option (Node P S))) (w : World) (h : ℕ) → h < 32
    → AreNodes setting nodes w → slice_get nodes h ≡ Some None → is_honest_host setting h ≡ false
none_found setting nodes w h below are at = sym (honest_party setting h below) ∙ are.each h None at

-- what holds of a value that is there, where one is
pub some_then : {T : Type 0} (A B : T → Type 0) (o : Option T) → ((x : T) → A x → B x) → IfSome o A → IfSome o B
some_then A B None by is = tt
some_then A B (Some x) by is = by x is

-- what holds where there is none
pub none_then : {T : Type 0} (A B : Type 0) (o : Option T) → (A → B) → IfNone o A → IfNone o B
none_then A B None by is = by is
none_then A B (Some x) by is = tt
