-- Bytes that are spelled as a record, where they are read as a record of an Order: whose statement it is.
use Rattle.std.proofs.Common.{◌≡◌, ℕ, ℤ, ◌+◌, ◌^◌, ◌<◌, ◌≤◌, ◌&&◌, cond, eqb, leb, List, [], ◌∷◌, ◌++◌, length, Result, Ok, Err, refl, ap, sym, subst, ◌∙◌, append_assoc, arith}
use Rattle.std.proofs.lemmas.Bool.{leb-true}
use Rattle.std.specs.Int.{to_be_bytes, w16}
use Rattle.nys_bytes.specs.Reading.{Reading}
use Rattle.nys_bytes.specs.declared.content.Content.{Content}
use Rattle.nys_stmt.specs.declared.records.Record.{Record}
use Rattle.nys_stmt.specs.declared.statement.Body.{Body}
use Rattle.nys_stmt.specs.declared.statement.Body.TheVariants as body
use Rattle.nys_stmt.specs.declared.statement.FilledKind.{FilledKind}
use Rattle.nys_stmt.specs.declared.statement.FilledKind.TheVariants as kind
use Rattle.nys_stmt.specs.declared.statement.Statement.{Statement}
use Rattle.nys_stmt.specs.declared.tags.Tags.{Tags}
use Rattle.nys_stmt.specs.declared.wire.WireKind.TheVariants as wrong
use Rattle.nys_stmt.specs.Records.{carried_bytes, makers_bytes, payload_in, record_spelling}
use Rattle.nys_stmt.specs.Spelling.{body_bytes, content_bytes, kind_byte, spelling}
use Rattle.nys_wire.specs.declared.fault.WireFault.{WireFault}
use Rattle.nys_wire.specs.declared.fault.WireFault.TheVariants.{At}
use Rattle.nys_wire.specs.declared.kind.Kind.{Kind}
use Rattle.nys_wire.specs.declared.kind.Kind.TheVariants.{Filled, Attest, Ask, Wedge, Frozen, Open}
use Rattle.nys_wire.specs.Reading.{◌>>=◌, attested_at, body_at, byte_at, carried_at, content_at, filled_at, front_at, host_at, kind_at, lengths_at, makers_at, map_at, number_at, pair_at, Reads, record_at, slot_at, statement_at, upto_at, whole_record, within}
use Rattle.nys_wire.proofs.Chains.{within_is}
use Rattle.nys_wire.proofs.Numbers.{byte_is, number_is, number_short, wide16}
use Rattle.nys_wire.proofs.Parts.{host_is, upto_is}
use Rattle.nys_wire.proofs.Steps.{Again, at, bind_ok, map_takes, ok_is, pair_is, test_ok}
use Rattle.nys_rules.specs.Exchanges.{IsOrderRecord}
use Rattle.nys_rules.specs.Sending.{said_in}
use Rattle.nys_rules.proofs.CertificateLemmas.{both_true}

-- the body is of an Order
record IsOrder (said : Body) : Type 0 where
  pub host : ℕ
  pub slot : ℕ
  pub content : Content
  pub says : said ≡ body.Filled kind.Order host slot content

-- ---- what is read

-- the magic and the version
front_again : (rest : List ℕ) → Again (front_at (at 0 (0x4e ∷ 0x59 ∷ 0x02 ∷ rest))) (0x4e59, 2) rest
unfolding front_at
front_again rest =
    (pair_is (within 0x4e59 0x4e59 wrong.Magic (number_at w16)) (within 2 2 wrong.Version byte_at) (λ n. to_be_bytes w16 n) (λ b. b ∷ []) _ _
    (within_is 0x4e59 0x4e59 wrong.Magic (number_at w16) (λ n. to_be_bytes w16 n) (λ n. n < 2 ^ 16) (number_is w16 (2 ^ 16) wide16))
    (within_is 2 2 wrong.Version byte_at (λ b. b ∷ []) (λ b. b < 256) byte_is)).again (0x4e59, 2) rest 0
    ((omega arith, omega arith, omega arith), (omega arith, omega arith, omega arith))

-- a kind that is read is the one that was named
read_as : (named : Kind) (after : Reading) (x : Kind × Reading) → ◌≡◌ {A = Result (Kind × Reading) WireFault} (Ok (named, after)) (Ok x)
    → x.0 ≡ Filled kind.Order → named ≡ Filled kind.Order
read_as named after x e is = ap (λ (y : Kind × Reading). y.0) (ok_is (named, after) x e) ∙ is

-- the kind of an Order is that byte's alone
order_kind : (said : Body) (rest : List ℕ) (place : ℕ) (x : Kind × Reading)
    → kind_at (at place (kind_byte said ∷ rest)) ≡ Ok x → x.0 ≡ Filled kind.Order
    → IsOrder said × (x.1 ≡ at (place + 1) rest)
unfolding kind_at byte_at
order_kind (body.Filled kind.Offer h slot c) rest place x e is = absurd (let no = read_as (Filled kind.Offer) _ x e is in cc)
order_kind (body.Filled kind.Order h slot c) rest place x e is = (
  record { host = h; slot = slot; content = c; says = refl },
  sym (ap (λ (y : Kind × Reading). y.1) (ok_is (Filled kind.Order, at (place + 1) rest) x e)),
)
order_kind (body.Filled kind.Deliver h slot c) rest place x e is =
    absurd (let no = read_as (Filled kind.Deliver) _ x e is in cc)
order_kind (body.Filled kind.Report h slot c) rest place x e is =
    absurd (let no = read_as (Filled kind.Report) _ x e is in cc)
order_kind (body.Filled kind.Inherit h slot c) rest place x e is =
    absurd (let no = read_as (Filled kind.Inherit) _ x e is in cc)
order_kind (body.Attest p h k payload) rest place x e is = absurd (let no = read_as Attest _ x e is in cc)
order_kind (body.Ask h slot) rest place x e is = absurd (let no = read_as Ask _ x e is in cc)
order_kind body.Wedge rest place x e is = absurd (let no = read_as Wedge _ x e is in cc)
order_kind (body.Frozen h slot) rest place x e is = absurd (let no = read_as Frozen _ x e is in cc)
order_kind (body.Open lengths) rest place x e is = absurd (let no = read_as Open _ x e is in cc)

-- a host, a slot and a content, and what is left behind them
abbrev Slotted : Type 0
Slotted = (ℕ × (ℕ × Content)) × Reading

-- they are read one behind the other
abbrev slotted_at : Reads (ℕ × (ℕ × Content))
slotted_at here = pair_at host_at (pair_at (upto_at 1023) (content_at carried_at)) here

-- what is read for an Order: its kind, its host and its slot
record IsReadOrder (named : Kind) (here : Reading) (h s : ℕ) : Type 0 where
  pub kind_is : named ≡ Filled kind.Order
  pub parts : Slotted
  pub reads : slotted_at here ≡ Ok parts
  pub host_is : parts.0.0 ≡ h
  pub slot_is : parts.0.1.0 ≡ s

-- a body that is made of what was read isn't of this kind
other_body : {A : Type 0} (field : Reads A) (make : A → Body) (here : Reading) (x : Body × Reading) (said : Body)
    → map_at make field here ≡ Ok x → x.0 ≡ said → ((y : A) → make y ≡ said → ⊥) → ⊥
other_body field make here x said e is never =
    map_takes field make (λ (z : Body × Reading). z.0 ≡ said → ⊥) here x e (λ y read. never y.0) is

-- an Order that is read
read_order : (named : Kind) (here : Reading) (x : Body × Reading) (h s : ℕ) (c : Content) → body_at carried_at named here ≡ Ok x
    → x.0 ≡ body.Filled kind.Order h s c → IsReadOrder named here h s
unfolding body_at filled_at attested_at
read_order (Filled filled) here x h s c e is =
    map_takes slotted_at (λ (y : ℕ × (ℕ × Content)). body.Filled filled y.0 y.1.0 y.1.1)
    (λ (z : Body × Reading). z.0 ≡ body.Filled kind.Order h s c → IsReadOrder (Filled filled) here h s) here x e
    (λ y read same.
    let kind-is : filled ≡ kind.Order = cc in
    record { kind_is = ap Filled kind-is; parts = y; reads = read; host_is = cc; slot_is = cc }) is
read_order Attest here x h s c e is = absurd (other_body (pair_at host_at (pair_at host_at (pair_at (upto_at 65535) carried_at))) (λ (y : ℕ × (ℕ × (ℕ × List ℤ))). body.Attest y.0 y.1.0 y.1.1.0 y.1.1.1) here x (body.Filled kind.Order h s c) e is (λ y no. cc))
read_order Ask here x h s c e is = absurd (other_body (slot_at 1023) (λ (y : ℕ × ℕ). body.Ask y.0 y.1) here x (body.Filled kind.Order h s c) e is (λ y no. cc))
read_order Wedge here x h s c e is =
    absurd (let no = ap (λ (y : Body × Reading). y.0) (ok_is (body.Wedge, here) x e) ∙ is in cc)
read_order Frozen here x h s c e is = absurd (other_body (slot_at 1024) (λ (y : ℕ × ℕ). body.Frozen y.0 y.1) here x (body.Filled kind.Order h s c) e is (λ y no. cc))
read_order Open here x h s c e is = absurd (other_body lengths_at body.Open here x (body.Filled kind.Order h s c) e is (λ y no. cc))

-- ---- a statement

-- the parts of a statement that is read for an Order
record IsReadStatement (here : Reading) (e h s : ℕ) : Type 0 where
  pub named : Kind × Reading
  pub kind_read : kind_at here ≡ Ok named
  pub epoch : ℕ × Reading
  pub epoch_read : upto_at 63 named.1 ≡ Ok epoch
  pub epoch_is : epoch.0 ≡ e
  pub order : IsReadOrder named.0 epoch.1 h s

-- a statement that is read
read_statement : (here : Reading) (x : Statement × Reading) (e h s : ℕ) (c : Content) → statement_at carried_at here ≡ Ok x
    → x.0 ≡ said_in e (body.Filled kind.Order h s c) → IsReadStatement here e h s
unfolding statement_at
read_statement here x e h s c read is =
    let a = bind_ok (kind_at here) (λ k. upto_at 63 k.1 >>= λ epoch. body_at carried_at k.0 epoch.1 >>= λ b. Ok (record { epoch = epoch.0; body = b.0 }, b.1)) x read in
    let b = bind_ok (upto_at 63 a.0.1) (λ epoch. body_at carried_at a.0.0 epoch.1 >>= λ b. Ok (record { epoch = epoch.0; body = b.0 }, b.1)) x a.2 in
    let c2 = bind_ok (body_at carried_at a.0.0 b.0.1) (λ y. Ok (record { epoch = b.0.0; body = y.0 }, y.1)) x b.2 in
    let made : Statement × Reading = (record { epoch = b.0.0; body = c2.0.0 }, c2.0.1) in
    let same = ap (λ (y : Statement × Reading). y.0) (ok_is made x c2.2) ∙ is in record {
      named = a.0;
      kind_read = a.1;
      epoch = b.0;
      epoch_read = b.1;
      epoch_is = ap (λ (y : Statement). y.epoch) same;
      order = read_order a.0.0 b.0.1 c2.0 h s c c2.1 (ap (λ (y : Statement). y.body) same);
    }

-- what is read first of what is spelled so
pub record IsHeaded (statement : Statement) (e h s : ℕ) : Type 0 where
  pub host : ℕ
  pub slot : ℕ
  pub content : Content
  pub says : statement.body ≡ body.Filled kind.Order host slot content
  -- where these are in their ranges they are the ones that were read
  pub same : statement.epoch ≤ 63 → host ≤ 31 → slot ≤ 1023 → (statement.epoch ≡ e) × (host ≡ h) × (slot ≡ s)

-- of an Order
spelled_order : (n k i : ℕ) (d : Content) (more : List ℕ) (place e h s : ℕ)
    → IsReadStatement (at place (spelling (said_in n (body.Filled kind.Order k i d)) ++ more)) e h s
    → n ≤ 63 → k ≤ 31 → i ≤ 1023 → (n ≡ e) × (k ≡ h) × (i ≡ s)
unfolding spelling body_bytes kind_at byte_at
spelled_order n k i d more place e h s r few low room =
    let tail : List ℕ = (k ∷ to_be_bytes w16 i ++ content_bytes d) ++ more in
    let after : List ℕ = content_bytes d ++ more in
    let kind-after : r.named.1 ≡ at (place + 1) ((to_be_bytes w16 n ++ (k ∷ to_be_bytes w16 i ++ content_bytes d)) ++ more) =
    sym (ap (λ (y : Kind × Reading). y.1) (ok_is (Filled kind.Order, _) r.named r.kind_read)) in
    let first = (upto_is 63 (omega arith)).again n tail (place + 1) few in
    let grouped = append_assoc (to_be_bytes w16 n) (k ∷ to_be_bytes w16 i ++ content_bytes d) more in
    let epoch-here : upto_at 63 r.named.1 ≡ Ok (n, at first.0 tail) =
    ap (upto_at 63) (kind-after ∙ ap (at (place + 1)) grouped) ∙ first.1 in
    let epoch-is = ok_is (n, at first.0 tail) r.epoch (sym epoch-here ∙ r.epoch_read) in
    let parts = r.order in
    let host = bind_ok (host_at r.epoch.1) (λ x. pair_at (upto_at 1023) (content_at carried_at) x.1 >>= λ y. Ok ((x.0, y.0), y.1)) parts.parts parts.reads in
    let slot = bind_ok (pair_at (upto_at 1023) (content_at carried_at) host.0.1) (λ y. Ok ((host.0.0, y.0), y.1)) parts.parts host.2 in
    let inner = bind_ok (upto_at 1023 host.0.1) (λ x. content_at carried_at x.1 >>= λ y. Ok ((x.0, y.0), y.1)) slot.0 slot.1 in
    let last = bind_ok (content_at carried_at inner.0.1) (λ y. Ok ((inner.0.0, y.0), y.1)) slot.0 inner.2 in
    let host-rest : List ℕ = (to_be_bytes w16 i ++ content_bytes d) ++ more in
    let second = host_is.again k host-rest first.0 low in
    let host-is = ok_is (k, at second.0 host-rest) host.0
    (sym (ap host_at (sym (ap (λ (y : ℕ × Reading). y.1) epoch-is)) ∙ second.1) ∙ host.1) in
    let third = (upto_is 1023 (omega arith)).again i after second.0 room in
    let slot-here : upto_at 1023 host.0.1 ≡ Ok (i, at third.0 after) =
    ap (upto_at 1023) (sym (ap (λ (y : ℕ × Reading). y.1) host-is) ∙ ap (at second.0) (append_assoc (to_be_bytes w16 i) (content_bytes d) more)) ∙ third.1 in
    let slot-is = ok_is (i, at third.0 after) inner.0 (sym slot-here ∙ inner.1) in
    let made-inner : (ℕ × Content) × Reading = ((inner.0.0, last.0.0), last.0.1) in
    let made : Slotted = ((host.0.0, slot.0.0), slot.0.1) in
    let all = ok_is made parts.parts slot.2 in
    let inside = ok_is made-inner slot.0 last.2 in (
      ap (λ (y : ℕ × Reading). y.0) epoch-is ∙ r.epoch_is,
      ap (λ (y : ℕ × Reading). y.0) host-is ∙ (ap (λ (y : Slotted). y.0.0) all ∙ parts.host_is),
      ap (λ (y : ℕ × Reading). y.0) slot-is
          ∙ (ap (λ (y : (ℕ × Content) × Reading). y.0.0) inside ∙ (ap (λ (y : Slotted). y.0.1.0) all ∙ parts.slot_is)),
    )

-- any statement
spelled : (st : Statement) (carried makers : List ℕ) (place e h s : ℕ)
    → IsReadStatement (at place ((spelling st ++ carried) ++ makers)) e h s → IsHeaded st e h s
unfolding spelling
spelled st carried makers place e h s r =
    let o = (order_kind st.body _ place r.named r.kind_read r.order.kind_is).0 in
    let here : st ≡ said_in st.epoch (body.Filled kind.Order o.host o.slot o.content) = ap (λ (b : Body). said_in st.epoch b) o.says in
    let grouped = append_assoc (spelling st) carried makers in
    let read = subst (λ (x : Statement). IsReadStatement (at place (spelling x ++ (carried ++ makers))) e h s) here
    (subst (λ (l : List ℕ). IsReadStatement (at place l) e h s) grouped r) in record {
      host = o.host;
      slot = o.slot;
      content = o.content;
      says = o.says;
      same = λ few low room. spelled_order st.epoch o.host o.slot o.content (carried ++ makers) place e h s read few low room;
    }

-- what is read of a record of an Order behind the magic and the version
record IsReadRecord (frame : List ℕ) (e h s : ℕ) : Type 0 where
  pub front : (ℕ × ℕ) × Reading
  pub front_read : front_at (at 0 frame) ≡ Ok front
  pub read : IsReadStatement front.1 e h s

-- a record that is read
read_record : (frame : List ℕ) (e h s : ℕ) → IsOrderRecord frame e h s → IsReadRecord frame e h s
unfolding whole_record record_at
read_record frame e h s is =
    let a = bind_ok (record_at (at 0 frame)) (λ x. cond (eqb (length x.1.left) 0) (Ok x.0) (Err (At x.1.place wrong.Trailing))) is.r is.reads in
    let whole = test_ok (eqb (length a.0.1.left) 0) (At a.0.1.place wrong.Trailing) a.0.0 is.r a.2 in
    let b = bind_ok (front_at (at 0 frame)) (λ front. statement_at carried_at front.1 >>= λ t. makers_at t.1 >>= λ m. Ok (record { statement = t.0; makers = m.0 }, m.1)) a.0 a.1 in
    let c = bind_ok (statement_at carried_at b.0.1) (λ t. makers_at t.1 >>= λ m. Ok (record { statement = t.0; makers = m.0 }, m.1)) a.0 b.2 in
    let d = bind_ok (makers_at c.0.1) (λ m. Ok (record { statement = c.0.0; makers = m.0 }, m.1)) a.0 c.2 in
    let made : Record × Reading = (record { statement = c.0.0; makers = d.0.0 }, d.0.1) in
    let says : c.0.0 ≡ said_in e (body.Filled kind.Order h s is.content) =
    ap (λ (x : Record × Reading). x.0.statement) (ok_is made a.0 d.2) ∙ (ap (λ (x : Record). x.statement) whole.1 ∙ is.statement) in
    record { front = b.0; front_read = b.1; read = read_statement b.0.1 c.0 e h s is.content c.1 says }

-- a record that is read for an Order was spelled from an Order
pub headed : (r : Record) (e h s : ℕ) → IsOrderRecord (record_spelling r) e h s → IsHeaded r.statement e h s
unfolding record_spelling
headed r e h s is =
    let text : List ℕ = (spelling r.statement ++ carried_bytes (payload_in r.statement.body)) ++ makers_bytes r.makers in
    let all = read_record (record_spelling r) e h s is in
    let front = front_again text in
    let front-is = ok_is ((0x4e59, 2), at front.0 text) all.front (sym front.1 ∙ all.front_read) in
    let read = subst (λ (x : Reading). IsReadStatement x e h s) (sym (ap (λ (x : (ℕ × ℕ) × Reading). x.1) front-is)) all.read in
    spelled r.statement (carried_bytes (payload_in r.statement.body)) (makers_bytes r.makers) front.0 e h s read

-- a number that is read is no more than it may be
upto_most : (most : ℕ) (field : Reads ℕ) (here : Reading) (x : ℕ × Reading) → within 0 most wrong.Range field here ≡ Ok x → x.0 ≤ most
unfolding within
upto_most most field here x e =
    let m = bind_ok (field here) (λ y. cond (leb 0 y.0 && leb y.0 most) (Ok y) (Err (At here.place wrong.Range))) x e in
    let g = test_ok (leb 0 m.0.0 && leb m.0.0 most) (At here.place wrong.Range) m.0 x m.2 in
    let few = leb-true m.0.0 most (both_true (leb 0 m.0.0) (leb m.0.0 most) g.0).1 in
    subst (λ (y : ℕ × Reading). y.0 ≤ most) g.1 few

-- the numbers of an Order that is read are in their ranges
pub ranged : (frame : List ℕ) (e h s : ℕ) → IsOrderRecord frame e h s → (e ≤ 63) × (h ≤ 31) × (s ≤ 1023)
ranged frame e h s is =
    let r = (read_record frame e h s is).read in
    let parts = r.order in
    let host = bind_ok (host_at r.epoch.1) (λ x. pair_at (upto_at 1023) (content_at carried_at) x.1 >>= λ y. Ok ((x.0, y.0), y.1)) parts.parts parts.reads in
    let slot = bind_ok (pair_at (upto_at 1023) (content_at carried_at) host.0.1) (λ y. Ok ((host.0.0, y.0), y.1)) parts.parts host.2 in
    let inner = bind_ok (upto_at 1023 host.0.1) (λ x. content_at carried_at x.1 >>= λ y. Ok ((x.0, y.0), y.1)) slot.0 slot.1 in
    let last = bind_ok (content_at carried_at inner.0.1) (λ y. Ok ((inner.0.0, y.0), y.1)) slot.0 inner.2 in
    let made : Slotted = ((host.0.0, slot.0.0), slot.0.1) in
    let all = ok_is made parts.parts slot.2 in
    let made-inner : (ℕ × Content) × Reading = ((inner.0.0, last.0.0), last.0.1) in
    let inside = ok_is made-inner slot.0 last.2 in (
      subst (λ n. n ≤ 63) r.epoch_is (upto_most 63 (number_at w16) r.named.1 r.epoch r.epoch_read),
      subst (λ n. n ≤ 31) (ap (λ (y : Slotted). y.0.0) all ∙ parts.host_is) (upto_most 31 byte_at r.epoch.1 host.0 host.1),
      subst (λ n. n ≤ 1023) (ap (λ (y : (ℕ × Content) × Reading). y.0.0) inside ∙ (ap (λ (y : Slotted). y.0.1.0) all ∙ parts.slot_is))
          (upto_most 1023 (number_at w16) host.0.1 inner.0 inner.1),
    )

-- no bytes are no record
pub nothing_read : (r : Record) → whole_record [] ≡ Ok r → ⊥
unfolding whole_record record_at front_at within
nothing_read r is =
    let a = bind_ok (record_at (at 0 [])) (λ x. cond (eqb (length x.1.left) 0) (Ok x.0) (Err (At x.1.place wrong.Trailing))) r is in
    let b = bind_ok (front_at (at 0 [])) (λ front. statement_at carried_at front.1 >>= λ t. makers_at t.1 >>= λ m. Ok (record { statement = t.0; makers = m.0 }, m.1)) a.0 a.1 in
    let c = bind_ok (within 0x4e59 0x4e59 wrong.Magic (number_at w16) (at 0 [])) (λ x. within 2 2 wrong.Version byte_at x.1 >>= λ y. Ok ((x.0, y.0), y.1)) b.0 b.1 in
    let d = bind_ok (number_at w16 (at 0 [])) (λ y. cond (leb 0x4e59 y.0 && leb y.0 0x4e59) (Ok y) (Err (At 0 wrong.Magic))) c.0 c.1 in
    let short = number_short w16 (at 0 []) 0 (omega arith) refl in
    let no = sym short ∙ d.1 in cc
