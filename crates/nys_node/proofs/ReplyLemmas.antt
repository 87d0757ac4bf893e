-- What a node sends to one asker, record after record.
use Rattle.std.proofs.Common.{◌≡◌, ℕ, ◌<◌, Bool, true, false, List, [], ◌∷◌, ◌++◌, length, refl, ap, sym, subst, ◌∙◌, ◌≤◌, arith}
use Rattle.std.proofs.lemmas.Bool.{lt-ltb}
use Rattle.std.proofs.lemmas.List.{append_assoc, map-append}
use Rattle.std.specs.Prelude.{Option, Some, None, option_map}
use Rattle.std.specs.Option.{option_to_list}
use Rattle.nys_bytes.specs.declared.content.Content.{Content}
use Rattle.nys_votes.specs.Ordered.{makers_of}
use Rattle.nys_rules.specs.Asking.{certificate_record}
use Rattle.nys_rules.specs.Packets.{Acts, joined}
use Rattle.nys_rules.specs.Rules.{only_if}
use Rattle.nys_rules.specs.Scope.{guards_of, Scope}
use Rattle.nys_rules.specs.Sending.{guards_at, others, own_record, packet, record_of, said_in, tags_for}
use Rattle.nys_rules.specs.Taking.{certificate}
use Rattle.nys_rules.specs.View.{Desk, empty_desk, length_of, View}
use Rattle.nys_stmt.specs.Ranges.{IsContentInRange, IsFilled, IsInRange}
use Rattle.nys_stmt.specs.Records.{IsWhole}
use Rattle.nys_stmt.specs.declared.statement.Body.{Body}
use Rattle.nys_stmt.specs.declared.statement.Body.TheVariants as body
use Rattle.nys_stmt.specs.declared.statement.FilledKind.{FilledKind}
use Rattle.nys_stmt.specs.declared.statement.FilledKind.TheVariants as kind
use Rattle.nys_stmt.specs.declared.tags.Tags.{Tags}
use Rattle.nys_stmt.specs.declared.records.Record.{Record}
use Rattle.nys_stmt.specs.declared.statement.Statement.{Statement}
use Rattle.nys_sending.specs.Receivers.{record_with}
use Rattle.nys_node.specs.Means.{Means}
use Rattle.nys_node.specs.declared.node.Node.{Node}
use Rattle.nys_node.specs.Replies.{CanTell}
use Rattle.nys_sending.specs.Receivers.{replied}
use Rattle.nys_node.specs.Said.{said_at}
use Rattle.nys_node.specs.Sound.{IsSomeInRange, IsSound, IsSoundDesk, tellable}
use Rattle.nys_node.proofs.SoundRanges.{desk_room, some_range}
use Rattle.nys_node.proofs.SoundSeats.{makers_are, makers_tagged}
use Rattle.nys_node.proofs.TellLemmas.{joined_end, joined_first}

-- these, then those
pub replied_then : (me asker : ℕ) (old : Acts) (xs ys : List Record)
    → joined (joined old (replied me asker xs)) (replied me asker ys) ≡ joined old (replied me asker (xs ++ ys))
unfolding replied
replied_then me asker old xs ys =
    joined_first old (replied me asker xs) (replied me asker ys)
    ∙ ap (λ packets. joined old (record { made = []; packets = packets; grew = [] })) (sym (map-append (packet me asker) xs ys))

-- none
pub replied_nothing : (me asker : ℕ) (old : Acts) → old ≡ joined old (replied me asker [])
unfolding replied
replied_nothing me asker old = sym (joined_end old)

-- what was done, with these sent, then those
pub replied_both : (me asker : ℕ) (old a b : Acts) (xs ys : List Record) → a ≡ joined old (replied me asker xs) → b ≡ joined a (replied me asker ys)
    → b ≡ joined old (replied me asker (xs ++ ys))
replied_both me asker old a b xs ys first second =
    second ∙ ap (λ acts. joined acts (replied me asker ys)) first ∙ replied_then me asker old xs ys

-- where something is there its record is sent
pub replied_some : {A : Type 0} (me asker : ℕ) (old out : Acts) (of : A → Record) (o : Option A) (x : A) → Some x ≡ o
    → out ≡ joined old (replied me asker (of x ∷ [])) → out ≡ joined old (replied me asker (option_to_list (option_map of o)))
replied_some me asker old out of o x is made = made ∙ ap (λ z. joined old (replied me asker (option_to_list (option_map of z)))) is

-- where nothing is there none is
pub replied_none : {A : Type 0} (me asker : ℕ) (old : Acts) (of : A → Record) (o : Option A) → None ≡ o
    → old ≡ joined old (replied me asker (option_to_list (option_map of o)))
replied_none me asker old of o is = replied_nothing me asker old ∙ ap (λ z. joined old (replied me asker (option_to_list (option_map of z)))) is

-- the record with the party's tags is its own
pub own_is : {S : Type 0} (scope : Scope S) (me : ℕ) (statement : Statement) (guards : List ℕ) (tags : List (ℕ × List ℕ)) (r : Record)
    → r ≡ record_with me statement tags → tags ≡ tags_for scope me statement guards → r ≡ own_record scope me statement guards
unfolding own_record
own_is scope me statement guards tags r is same = is ∙ ap (λ t. record_with me statement t) same

-- the record of a content in the open slot, where there is one
pub replied_said : {S : Type 0} (scope : Scope S) (v : View) (h asker : ℕ) (old out : Acts) (say : ℕ → Content → Body) (slot : ℕ) (copy content : Content) (o : Option Content)
    → out ≡ joined old (replied v.me asker (record_of scope v h (say slot copy) ∷ [])) → slot ≡ length_of v h → copy ≡ content → Some content ≡ o
    → out ≡ joined old (replied v.me asker (option_to_list (option_map (λ c. record_of scope v h (say (length_of v h) c)) o)))
replied_said scope v h asker old out say slot copy content o made at same is =
    replied_some v.me asker old out (λ c. record_of scope v h (say (length_of v h) c)) o content is
    (made ∙ ap (λ s. joined old (replied v.me asker (record_of scope v h (say s copy) ∷ []))) at
    ∙ ap (λ c. joined old (replied v.me asker (record_of scope v h (say (length_of v h) c) ∷ []))) same)

-- a content of the desk in the open slot is in range
pub filled_at : {S : Type 0} (scope : Scope S) (v : View) → IsSound scope v → (h slot : ℕ) (copy content : Content) (get : Desk → Option Content) → h < 32
    → get empty_desk ≡ None → IsSomeInRange (get (v.desks h)) → slot ≡ length_of v h → copy ≡ content → Some content ≡ get (v.desks h) → IsFilled h slot copy
filled_at scope v sound h slot copy content get low none in_range at same is = (
  omega (arith, low),
  omega (arith, at, desk_room scope v sound h get content none (sym is)),
  subst IsContentInRange (sym same) (some_range (get (v.desks h)) content (sym is) in_range),
)

-- an empty desk has nothing that the node said
pub said_none : (said : FilledKind) → said_at said empty_desk ≡ None
said_none kind.Offer = refl
said_none kind.Order = refl
said_none kind.Deliver = refl
said_none kind.Report = refl
said_none kind.Inherit = refl

-- what it said on a sound desk is in range
pub said_range : (said : FilledKind) (n : ℕ) (desk : Desk) → IsSoundDesk n desk → IsSomeInRange (said_at said desk)
said_range kind.Offer n desk sound = sound.offered
said_range kind.Order n desk sound = sound.ordered
said_range kind.Deliver n desk sound = sound.delivered
said_range kind.Report n desk sound = tt
said_range kind.Inherit n desk sound = tt

-- a record of these
abbrev pub made_of : Statement → List Tags → Record
made_of statement makers = record { statement = statement; makers = makers }

-- the record that was made of the collected orders is the certificate
pub certificate_is : (v : View) (h slot epoch : ℕ) (copy content : Content) (statement : Statement) (makers : List Tags)
    → statement ≡ said_in epoch (body.Filled kind.Order h slot copy) → epoch ≡ v.epoch → slot ≡ length_of v h → copy ≡ content → makers ≡ makers_of (v.desks h).orders
    → made_of statement makers ≡ certificate v h content
unfolding certificate
certificate_is v h slot epoch copy content statement makers says now at same all =
    ap (λ s. made_of s makers)
    (says ∙ ap (λ e. said_in e (body.Filled kind.Order h slot copy)) now ∙ ap (λ s. said_in v.epoch (body.Filled kind.Order h s copy)) at ∙ ap (λ c. said_in v.epoch (body.Filled kind.Order h (length_of v h) c)) same)
    ∙ ap (λ ms. made_of (said_in v.epoch (body.Filled kind.Order h (length_of v h) content)) ms) all

-- a certificate that was sent is whole
pub sent_whole : {S : Type 0} (scope : Scope S) (v : View) → IsSound scope v → (h : ℕ) (content : Content) → 1 ≤ tellable scope v h
    → IsInRange (said_in v.epoch (body.Filled kind.Order h (length_of v h) content)) → 1 ≤ (v.desks h).sent → IsWhole (certificate v h content)
unfolding certificate
sent_whole scope v sound h content told in_range some = record {
  range = in_range;
  makers = omega (arith, makers_are (v.desks h).orders, (sound.desks h).sent, some);
  tags = makers_tagged (λ tags. 1 ≤ length tags) (v.desks h).orders (λ m tags e. (sound.desks h).orders m tags e told);
}

-- it sent a certificate
pub certificate_sent : (v : View) (h me asker : ℕ) (old out : Acts) (content : Content) → 1 ≤ (v.desks h).sent → Some content ≡ (v.desks h).offered
    → out ≡ joined old (replied me asker (certificate v h content ∷ [])) → out ≡ joined old (replied me asker (option_to_list (certificate_record v h)))
certificate_sent v h me asker old out content some is made =
    rw (lt-ltb 0 (v.desks h).sent (omega (arith, some))) (replied_some me asker old out (certificate v h) (v.desks h).offered content is made)

-- it sent none
pub certificate_unsent : (v : View) (h me asker : ℕ) (old : Acts) → (v.desks h).sent ≡ 0
    → old ≡ joined old (replied me asker (option_to_list (certificate_record v h)))
certificate_unsent v h me asker old none = rw none (replied_nothing me asker old)

-- it made no offer, so it sent none
pub certificate_unmade : (v : View) (h me asker : ℕ) (old : Acts) → 1 ≤ (v.desks h).sent → None ≡ (v.desks h).offered
    → old ≡ joined old (replied me asker (option_to_list (certificate_record v h)))
certificate_unmade v h me asker old some is =
    rw (lt-ltb 0 (v.desks h).sent (omega (arith, some))) (replied_none me asker old (certificate v h) (v.desks h).offered is)

-- a record with the node's tags for these guards is the one that the view has
pub own_said : {P S : Type 0} (scope : Scope S) (v : View) (node : Node P S) (h : ℕ) (said : Body) → Means scope node v → (statement : Statement) (guards : List ℕ) (own : Record)
    → own ≡ own_record scope node.me statement guards → statement ≡ said_in node.epoch said → guards ≡ guards_at scope v h → own ≡ record_of scope v h said
own_said scope v node h said m statement guards own is says all =
    is ∙ ap (λ me. own_record scope me statement guards) m.me
    ∙ ap (λ s. own_record scope v.me s guards) (says ∙ ap (λ e. said_in e said) m.epoch)
    ∙ ap (λ gs. own_record scope v.me (said_in v.epoch said) gs) all

-- whom the node can tell something the view can
pub tells : {P S : Type 0} (scope : Scope S) (node : Node P S) (v : View) (h : ℕ) → Means scope node v → CanTell scope node h → 1 ≤ tellable scope v h
tells scope node v h m some =
    subst (λ me. 1 ≤ length (others me (guards_of scope v.epoch h))) m.me
    (subst (λ e. 1 ≤ length (others node.me (guards_of scope e h))) m.epoch some)

-- some of these guards are others than the node
pub guards_some : {P S : Type 0} (scope : Scope S) (node : Node P S) (v : View) (h : ℕ) (guards : List ℕ) → Means scope node v → CanTell scope node h
    → guards ≡ guards_at scope v h → 1 ≤ length (others node.me guards)
guards_some scope node v h guards m some all =
    subst (λ gs. 1 ≤ length (others node.me gs)) (sym all) (subst (λ e. 1 ≤ length (others node.me (guards_of scope e h))) m.epoch some)

-- nothing is sent where the test fails
pub unsent : (me asker : ℕ) (old : Acts) (b : Bool) (x : Option Record) → b ≡ false → old ≡ joined old (replied me asker (option_to_list (only_if b x)))
unsent me asker old b x fails = rw fails (replied_nothing me asker old)

-- neither of two is sent where it fails
pub unsent_both : (me asker : ℕ) (old : Acts) (b : Bool) (x y : Option Record) → b ≡ false
    → old ≡ joined old (replied me asker (option_to_list (only_if b x) ++ option_to_list (only_if b y)))
unsent_both me asker old b x y fails = rw fails (replied_nothing me asker old)

-- both are sent where it passes
pub sent_both : (me asker : ℕ) (old first last : Acts) (b : Bool) (x y : Option Record) → b ≡ true
    → first ≡ joined old (replied me asker (option_to_list x)) → last ≡ joined first (replied me asker (option_to_list y))
    → last ≡ joined old (replied me asker (option_to_list (only_if b x) ++ option_to_list (only_if b y)))
sent_both me asker old first last b x y passes one two =
    rw passes (replied_both me asker old first last (option_to_list x) (option_to_list y) one two)

-- two, then one, then one
pub sent_all : (me asker : ℕ) (old a b c : Acts) (w x y z : List Record) → a ≡ joined old (replied me asker (w ++ x)) → b ≡ joined a (replied me asker y)
    → c ≡ joined b (replied me asker z) → c ≡ joined old (replied me asker (w ++ (x ++ (y ++ z))))
sent_all me asker old a b c w x y z one two three =
    replied_both me asker old b c ((w ++ x) ++ y) z (replied_both me asker old a b (w ++ x) y one two) three
    ∙ ap (λ records. joined old (replied me asker records)) (append_assoc (w ++ x) y z ∙ append_assoc w x (y ++ z))
