-- Each event that a line says is one that a world takes.
use Rattle.std.proofs.Common.{◌≡◌, ◌<◌, ◌==◌, ◌&&◌, ◌||◌, ◌⊎◌, inl, inr, ℕ, List, Bool, true, false, cond, Option, Some, None, Result, Ok, Err, refl, subst, nat_lt}
use Rattle.std.proofs.lemmas.Bool.Decides.{Decides-eqb, Decides-ltb}
use Rattle.std.proofs.lemmas.List.Elements.{All-weaker}
use Rattle.std.proofs.lemmas.List.Sums.{AllPass-from_list_all}
use Rattle.nys_bare.specs.declared.fault.LineKind.{LineKind}
use Rattle.nys_bare.specs.declared.fault.LineKind.TheVariants.{Host, Liar}
use Rattle.nys_rules.proofs.CertificateLemmas.{both_true}
use Rattle.nys_rules.specs.Events.{Plain}
use Rattle.nys_rules.specs.Events.Plain.{Input, Deliver, Flush, Exchange, Ask, Bytes, Bundle, Say, Steal, Wedge, Decide, Retire, Open}
use Rattle.nys_rules.specs.Parties.{AreParties}
use Rattle.nys_schedule.specs.declared.form.Form.{Form}
use Rattle.nys_rules.specs.Asked.{AreTo, IsEvent, IsParty, LiarsSay, NamesHosts}
use Rattle.nys_schedule.specs.Judging.{are_parties, is_party, judged, liars_say, names_hosts}
use Rattle.nys_schedule.specs.Lines.{shaped}
use Rattle.nys_schedule.specs.Schedules.{line_of}
use Rattle.nys_schedule.proofs.ShapeLemmas.{HasList, shaped_is}

-- a number that passes is a party
party_is : (hosts g : ℕ) → is_party hosts g ≡ true → IsParty hosts g
party_is hosts g e = by_test (nat_lt g hosts) refl e
  where
    by_test : (b : Bool) → nat_lt g hosts ≡ b → (b || g == 32) ≡ true → (g < hosts) ⊎ (g ≡ 32)
    by_test true is test = inl ((Decides-ltb g hosts).0 is)
    by_test false is test = inr ((Decides-eqb g 32).0 test)

-- parties that pass are what a list is for
parties_are : (hosts : ℕ) (to : List ℕ) → are_parties hosts to ≡ true → AreParties to → AreTo hosts to
parties_are hosts to e list = record {
  list = list;
  each = All-weaker (λ g. is_party hosts g ≡ true) (IsParty hosts) (party_is hosts) to (AllPass-from_list_all (is_party hosts) to e);
}

-- a host that passes, and parties
host_and_list : (hosts a : ℕ) (to : List ℕ) → (nat_lt a hosts && are_parties hosts to) ≡ true
    → AreParties to
    → (a < hosts) × AreTo hosts to
host_and_list hosts a to e list =
    let tests = both_true (nat_lt a hosts) (are_parties hosts to) e in
    ((Decides-ltb a hosts).0 tests.0, parties_are hosts to tests.1 list)

-- the hosts that an event names, where they pass
hosts_are : (hosts : ℕ) (event : Plain) → names_hosts hosts event ≡ true → HasList event
    → NamesHosts hosts event
hosts_are hosts (Input h payload) e list = (Decides-ltb h hosts).0 e
hosts_are hosts (Deliver k) e list = tt
hosts_are hosts Flush e list = tt
hosts_are hosts Exchange e list = tt
hosts_are hosts (Ask h) e list = (Decides-ltb h hosts).0 e
hosts_are hosts (Bytes to frame) e list = party_is hosts to e
hosts_are hosts (Say a to statement) e list = host_and_list hosts a to e list
hosts_are hosts (Bundle a to packets) e list = host_and_list hosts a to e list
hosts_are hosts (Steal a to statement) e list =
    let tests = both_true (is_party hosts a) (are_parties hosts to) e in
    (party_is hosts a tests.0, parties_are hosts to tests.1 list)
hosts_are hosts Wedge e list = tt
hosts_are hosts (Decide h) e list = (Decides-ltb h hosts).0 e
hosts_are hosts (Retire h) e list = (Decides-ltb h hosts).0 e
hosts_are hosts Open e list = tt

-- who says or bundles, where it passes
liars_are : (liars : ℕ → Bool) (event : Plain) → liars_say liars event ≡ true → LiarsSay liars event
liars_are liars (Input h payload) e = tt
liars_are liars (Deliver k) e = tt
liars_are liars Flush e = tt
liars_are liars Exchange e = tt
liars_are liars (Ask h) e = tt
liars_are liars (Bytes to frame) e = tt
liars_are liars (Say a to statement) e = e
liars_are liars (Bundle a to packets) e = e
liars_are liars (Steal a to statement) e = tt
liars_are liars Wedge e = tt
liars_are liars (Decide h) e = tt
liars_are liars (Retire h) e = tt
liars_are liars Open e = tt

-- an event that is no fault passed both tests
pub record Passed (hosts : ℕ) (liars : ℕ → Bool) (o : Option Plain) (event : Plain) : Type 0 where
  pub there : o ≡ Some event
  hosts_pass : names_hosts hosts event ≡ true
  liars_pass : liars_say liars event ≡ true

-- what is judged to be no fault
pub passed : (hosts : ℕ) (liars : ℕ → Bool) (o : Option Plain) (event : Plain)
    → judged hosts liars o ≡ Ok event → Passed hosts liars o event
passed hosts liars None event e = absurd (cc)
passed hosts liars (Some said) event e =
    by_tests (names_hosts hosts said) (liars_say liars said) refl refl e
  where
    by_tests : (names tells : Bool) → names_hosts hosts said ≡ names → liars_say liars said ≡ tells
        → ◌≡◌ {A = Result Plain LineKind} (cond names (cond tells (Ok said) (Err Liar)) (Err Host)) (Ok event)
        → Passed hosts liars (Some said) event
    by_tests true true names tells is =
        let same : said ≡ event = cc in
        subst (Passed hosts liars (Some said)) same (record { there = refl; hosts_pass = names; liars_pass = tells })
    by_tests true false names tells is = absurd (cc)
    by_tests false tells names told is = absurd (cc)

-- the event of a line that is no fault is one that a world takes
pub line_is : (form : Form) (hosts : ℕ) (liars : ℕ → Bool) (words : List (List ℕ)) (event : Plain)
    → line_of form hosts liars words ≡ Ok event → IsEvent hosts liars event
line_is form hosts liars words event e =
    let passes = passed hosts liars (shaped form words) event e in
    let shape = shaped_is form words event passes.there in
    record {
      hosts_are = hosts_are hosts event passes.hosts_pass shape.list;
      liars_say = liars_are liars event passes.liars_pass;
      fit = shape.fit;
    }
