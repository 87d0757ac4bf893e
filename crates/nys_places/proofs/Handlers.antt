-- Handlers: by place they leave what they leave by name, for every machine that is named, every state and every payload.
use Rattle.std.proofs.Common.{◌≡◌, ℕ, ◌≤◌, ◌==◌, ℤ, pos, Bool, true, false, ◌&&◌, if◌then◌else◌, List, [], ◌∷◌, ◌++◌, length, take, drop, Option, Some, None, refl, ap, sym, ◌∙◌, subst, arith, eqb-true}
use Rattle.std.specs.Borrow.{Bor}
use Rattle.std.proofs.lemmas.Bool.{and_parts}
use Rattle.std.proofs.lemmas.List.{length-append}
use Rattle.std.proofs.Math.Seq.{drop-append_seam}
use Rattle.nys_tree.specs.declared.machine.Machine.{Machine}
use Rattle.nys_tree.specs.declared.name.Name.{Name}
use Rattle.nys_tree.specs.declared.stmt.Block.{Block}
use Rattle.nys_tree.specs.Bindings.{Bindings, top, is_new, fixed_of, payload_of}
use Rattle.nys_tree.specs.Named.{then_named, input_named, receive_named, variables, is_named, block_named}
use Rattle.nys_meaning.specs.declared.here.Here.{Here}
use Rattle.nys_meaning.specs.ByName.{Names, by_name}
use Rattle.nys_meaning.specs.Stmts.{Run, block}
use Rattle.nys_meaning.specs.Machines.{starts, variables_of, numbers_in, begun, handled, left_by, is_state, next}
use Rattle.nys_places.specs.declared.cells.Cells.{Cells}
use Rattle.nys_places.specs.Cells.{by_place}
use Rattle.nys_places.specs.Layout.{names_of, list_in, IsStacked, HasAll}
use Rattle.nys_places.specs.Steps.{cells_of, handled_at, left_at, next_at}
use Rattle.nys_places.proofs.Layouts.{single_list}
use Rattle.nys_places.proofs.Writes.{new_is, new_stacked, leave_is}
use Rattle.nys_places.proofs.StmtsAlike.{Alike, block_alike}
use Rattle.nys_places.proofs.Variables.{IsPlain, Declares, declares, names_from_more, numbers_are}

-- what the variables of a machine with this state stand for, at places that begin with it
variables_are : (m : Machine) (t : Bindings) (state rest : List ℤ) (payload : Bor (List ℤ)) → Declares m.vars [] t → length (starts m.vars) ≤ length state
    → names_of t (record { numbers = state ++ rest; payload = payload }) ≡ variables_of m state
variables_are m t state rest payload k le = k.names (record { numbers = state ++ rest; payload = payload }) ∙ names_from_more m.vars state rest [] le

-- what the payload stands for: its numbers where they lie
payload_list : (name : Name) (p : Cells) → name.len ≡ 0 → list_in p (payload_of name) ≡ p.payload.now
payload_list name p len = ap (λ n. if n == 0 then p.payload.now else take n (drop name.place p.numbers)) len

-- a payload stands on what is seen
payload_stacked : (s : Bindings) (name : Name) → IsStacked s → is_new 0 s name ≡ true → IsStacked (payload_of name ∷ s)
payload_stacked s name st t =
    let k = new_is 0 s name t in
    (record { place = k.place; other = k.other; single = λ f. let no : true ≡ false = f in cc; some = λ f. let no : true ≡ false = f in cc }, st)

-- a payload takes no place
payload_has : (s : Bindings) (name : Name) (p : Cells) → is_new 0 s name ≡ true → top s ≤ length p.numbers → HasAll (payload_of name ∷ s) p
payload_has s name p t le = let k = new_is 0 s name t in record { places = omega (arith, k.len, k.place, le) }

-- what a handler leaves by place is what it leaves by name
left_alike : (own t : Bindings) (state : List ℤ) (before : Cells) (variables : Names) (o : Option (Run Cells)) (q : Option (Run Names)) → Alike (own ++ t) o q → IsStacked t → IsPlain t
    → variables ≡ names_of t before → top t ≡ length state → left_by variables state q ≡ left_at state o
left_alike own t state before variables None None a st pl e n = refl
left_alike own t state before variables None (Some v) a st pl e n = absurd a
left_alike own t state before variables (Some u) None a st pl e n = absurd a
left_alike own t state before variables (Some u) (Some v) a st pl e n =
    let names : by_name.leave variables v.names ≡ names_of t u.names =
    ap (λ x. by_name.leave x v.names) e ∙ (ap (λ (x : Run Names). by_name.leave (names_of t before) x.names) a.0 ∙ leave_is own t before u.names) in
    let numbers : numbers_in (by_name.leave variables v.names) ≡ take (length state) u.names.numbers =
    ap numbers_in names ∙ (numbers_are t u.names st pl ∙ ap (λ k. take k u.names.numbers) n) in
    let effects : v.effects ≡ u.effects = ap (λ (x : Run Names). x.effects) a.0 in
    ap (λ x. (x, v.effects)) numbers ∙ ap (λ x. (take (length state) u.names.numbers, x)) effects

-- a block begun by place does what it does begun by name
begun_alike : (h : Here) (s : Bindings) (body : Block) (p : Cells) (names : Names) → IsStacked s → block_named body s ≡ true → HasAll s p → names_of s p ≡ names
    → Alike s (block by_place h body (begun p)) (block by_name h body (begun names))
begun_alike h s body p names st ok has e =
    subst (λ x. Alike s (block by_place h body (begun p)) (block by_name h body (begun x))) e (block_alike h body s st ok (begun p) has)

-- a handler leaves by place what it leaves by name
handler_alike : (m : Machine) (h : Here) (t : Bindings) (from : Option ℕ) (state : List ℤ) (payload : Bor (List ℤ)) → Declares m.vars [] t → input_named m.on_input t ≡ true → receive_named m.on_receive t ≡ true
    → length state ≡ length (starts m.vars)
    → left_by (variables_of m state) state (handled m h from payload.now (variables_of m state)) ≡ left_at state (handled_at m h from (cells_of from state payload))
handler_alike m h t None state payload k input receive size =
    let p = cells_of None state payload in
    let name = m.on_input.payload in
    let parts = and_parts _ _ input in
    let new = new_is 0 t name parts.0 in
    let n : top t ≡ length state = omega (arith, k.count, size) in
    let vars : names_of t p ≡ variables_of m state = k.names p in
    let has = payload_has t name p parts.0 (omega (arith, n)) in
    let names : names_of (payload_of name ∷ t) p ≡ (name.text, payload.now) ∷ variables_of m state = ap (λ l. (name.text, l) ∷ names_of t p) (payload_list name p new.len) ∙ ap (λ x. (name.text, payload.now) ∷ x) vars in
    left_alike (payload_of name ∷ []) t state p (variables_of m state) _ _
    (begun_alike h (payload_of name ∷ t) m.on_input.body p ((name.text, payload.now) ∷ variables_of m state) (payload_stacked t name k.stacked parts.0) parts.1 has names)
    k.stacked k.plain (sym vars) n
handler_alike m h t (Some from) state payload k input receive size =
    let p = cells_of (Some from) state payload in
    let sender = m.on_receive.sender in
    let name = m.on_receive.payload in
    let s = fixed_of sender ∷ t in
    let parts = and_parts _ _ receive in let two = and_parts _ _ parts.1 in
    let first = new_is 1 t sender parts.0 in
    let new = new_is 0 s name two.0 in
    let n : top t ≡ length state = omega (arith, k.count, size) in
    let vars = variables_are m t state (pos from ∷ []) payload k (omega (arith, size)) in
    let from_list : list_in p (fixed_of sender) ≡ pos from ∷ [] =
    single_list p (fixed_of sender) first.len ∙ (ap (λ x. take 1 (drop x p.numbers)) (first.place ∙ n) ∙ ap (take 1) (drop-append_seam state (pos from ∷ []))) in
    let long = length-append state (pos from ∷ []) in
    let has = payload_has s name p two.0 (omega (arith, first.len, first.place, n, long)) in
    let names : names_of (payload_of name ∷ s) p ≡ (name.text, payload.now) ∷ (sender.text, pos from ∷ []) ∷ variables_of m state =
    ap (λ l. (name.text, l) ∷ names_of s p) (payload_list name p new.len)
    ∙ (ap (λ l. (name.text, payload.now) ∷ (sender.text, l) ∷ names_of t p) from_list ∙ ap (λ x. (name.text, payload.now) ∷ (sender.text, pos from ∷ []) ∷ x) vars) in
    left_alike (payload_of name ∷ fixed_of sender ∷ []) t state p (variables_of m state) _ _
    (begun_alike h (payload_of name ∷ s) m.on_receive.body p ((name.text, payload.now) ∷ (sender.text, pos from ∷ []) ∷ variables_of m state)
    (payload_stacked s name (new_stacked t sender true k.stacked parts.0) two.0) two.1 has names)
    k.stacked k.plain (sym vars) n

-- what is known of a machine that is named
pub record IsMachine (m : Machine) : Type 0 where
  pub bindings : Bindings
  pub declares : Declares m.vars [] bindings
  pub input : input_named m.on_input bindings ≡ true
  pub receive : receive_named m.on_receive bindings ≡ true

-- what is known of a machine, by its variables
machine_by : (m : Machine) (o : Option Bindings) → variables m ≡ o → then_named o (λ s. input_named m.on_input s && receive_named m.on_receive s) ≡ true → IsMachine m
machine_by m None e t = let no : false ≡ true = t in cc
machine_by m (Some s) e t =
    let parts = and_parts _ _ t in
    record { bindings = s; declares = declares m.vars [] s tt tt (omega arith) e; input = parts.0; receive = parts.1 }

-- what is known of a machine that is named
pub machine_is : (m : Machine) → is_named m ≡ true → IsMachine m
unfolding is_named
machine_is m t = machine_by m (variables m) refl t

-- a step, by whether its list is a state
next_by : (m : Machine) (h : Here) (from : Option ℕ) (state : List ℤ) (payload : Bor (List ℤ)) (b : Bool) → is_state m state ≡ b → IsMachine m
    → (if b then left_by (variables_of m state) state (handled m h from payload.now (variables_of m state)) else (state, [])) ≡ (if b then left_at state (handled_at m h from (cells_of from state payload)) else (state, []))
next_by m h from state payload true e k = handler_alike m h k.bindings from state payload k.declares k.input k.receive (eqb-true _ _ e)
next_by m h from state payload false e k = refl

-- what a machine does is what the walk by place does
pub next_is : (m : Machine) (h : Here) (from : Option ℕ) (state : List ℤ) (payload : Bor (List ℤ)) → is_named m ≡ true → next m h state from payload.now ≡ next_at m h state from payload
unfolding next next_at
next_is m h from state payload t = next_by m h from state payload (is_state m state) refl (machine_is m t)

-- a state has fewer numbers than the most, and the payload of an input stands behind it
pub count_is : (m : Machine) → is_named m ≡ true → m.on_input.payload.place ≡ length (starts m.vars)
count_is m t =
    let k = machine_is m t in let parts = and_parts _ _ k.input in let new = new_is 0 k.bindings m.on_input.payload parts.0 in let count = k.declares.count in
    omega (arith, new.place, count)

-- a state has at most the most numbers
pub count_few : (m : Machine) → is_named m ≡ true → length (starts m.vars) ≤ 256
count_few m t = let k = machine_is m t in let count = k.declares.count in let few = k.declares.few in omega (arith, count, few)

-- a state ends within the most numbers
pub place_few : (m : Machine) → is_named m ≡ true → m.on_input.payload.place ≤ 256
place_few m t = let e = count_is m t in let few = count_few m t in omega (arith, e, few)
