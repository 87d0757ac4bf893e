-- What the words of a request say: its words are those, and its numbers are within their limits.
use Rattle.std.proofs.Common.{◌≡◌, ℕ, ◌≤◌, ◌-◌, ◌^◌, Bool, true, false, List, [], ◌∷◌, Option, Some, None, Result, Ok, Err, slice_get, option_map, codes, decimal, refl, sym, ap, subst, ◌∙◌}
use Rattle.std.proofs.lemmas.Slice.Eq.{bytes_eq-Decides}
use Rattle.std.specs.Option.{unwrap_or}
use Rattle.std.specs.Str.{bytes_eq}
use Rattle.nys_hosts.specs.declared.limits.TheConstants.{MAX_HOSTS}
use Rattle.nys_words.proofs.NumberLemmas.{number_written}
use Rattle.nys_words.specs.CommandLine.{values_after}
use Rattle.nys_words.specs.Words.{answer_to_plain, answer_to_word, command_of, IsWithin, number_in, with_events, with_hosts, with_seed, with_values, word_of, words_of, workload_by}
use Rattle.nys_words.specs.declared.command.Command.{Command}
use Rattle.nys_words.specs.declared.command.Command.TheVariants.{Bare, Verify, Check, Plan, Replay, Trace}
use Rattle.nys_words.specs.declared.request.Request.{Request}
use Rattle.nys_words.specs.declared.request.Request.TheVariants as ask
use Rattle.nys_words.specs.declared.request.TheConstants.{MAX_EVENTS, MIN_HOSTS}

-- these are the words of the request, and it is within its limits
pub record Tells (words : List (List ℕ)) (request : Request) : Type 0 where
  pub spoken : words ≡ words_of request
  pub within : IsWithin request

-- behind three numbers no word stands
events_tell : (seed hosts events : ℕ) (rest : List (List ℕ)) (request : Request) → MIN_HOSTS ≤ hosts → hosts ≤ MAX_HOSTS → events ≤ MAX_EVENTS
    → with_events seed hosts events rest ≡ Ok request
    → Tells (codes "workload" ∷ decimal seed ∷ decimal hosts ∷ decimal events ∷ rest) request
events_tell seed hosts events [] request least most few found =
    let is : ask.Workload (record { seed = seed; hosts = hosts; events = events }) ≡ request = cc in
    subst (Tells (codes "workload" ∷ decimal seed ∷ decimal hosts ∷ decimal events ∷ [])) is
    (record { spoken = refl; within = (least, most, few) })
events_tell seed hosts events (extra ∷ rest) request least most few found = let bad : Err 4 ≡ Ok request = found in cc

-- the third number is how many events there are
hosts_tell : (seed hosts : ℕ) (values : List (List ℕ)) (request : Request) → MIN_HOSTS ≤ hosts → hosts ≤ MAX_HOSTS
    → with_hosts seed hosts values ≡ Ok request → Tells (codes "workload" ∷ decimal seed ∷ decimal hosts ∷ values) request
hosts_tell seed hosts [] request least most found = let bad : Err 3 ≡ Ok request = found in cc
hosts_tell seed hosts (word ∷ rest) request least most found = by (number_in 0 MAX_EVENTS word) refl
  where
    by : (number : Option ℕ) → number_in 0 MAX_EVENTS word ≡ number → Tells (codes "workload" ∷ decimal seed ∷ decimal hosts ∷ word ∷ rest) request
    by None is = let bad : Err 3 ≡ Ok request = rw is at found in cc
    by (Some events) is =
        let written = number_written 0 MAX_EVENTS word events is in
        let on : with_events seed hosts events rest ≡ Ok request = rw is at found in
        subst (λ w. Tells (codes "workload" ∷ decimal seed ∷ decimal hosts ∷ w ∷ rest) request) written.printed
        (events_tell seed hosts events rest request least most written.most on)

-- the second is how many hosts
seed_tells : (seed : ℕ) (values : List (List ℕ)) (request : Request) → with_seed seed values ≡ Ok request
    → Tells (codes "workload" ∷ decimal seed ∷ values) request
seed_tells seed [] request found = let bad : Err 2 ≡ Ok request = found in cc
seed_tells seed (word ∷ rest) request found = by (number_in MIN_HOSTS MAX_HOSTS word) refl
  where
    by : (number : Option ℕ) → number_in MIN_HOSTS MAX_HOSTS word ≡ number → Tells (codes "workload" ∷ decimal seed ∷ word ∷ rest) request
    by None is = let bad : Err 2 ≡ Ok request = rw is at found in cc
    by (Some hosts) is =
        let written = number_written MIN_HOSTS MAX_HOSTS word hosts is in
        let on : with_hosts seed hosts rest ≡ Ok request = rw is at found in
        subst (λ w. Tells (codes "workload" ∷ decimal seed ∷ w ∷ rest) request) written.printed
        (hosts_tell seed hosts rest request written.least written.most on)

-- the first is the seed
workload_tells : (values : List (List ℕ)) (request : Request) → workload_by values ≡ Ok request → Tells (codes "workload" ∷ values) request
workload_tells [] request found = let bad : Err 1 ≡ Ok request = found in cc
workload_tells (word ∷ rest) request found = by (number_in 0 (2 ^ 64 - 1) word) refl
  where
    by : (number : Option ℕ) → number_in 0 (2 ^ 64 - 1) word ≡ number → Tells (codes "workload" ∷ word ∷ rest) request
    by None is = let bad : Err 1 ≡ Ok request = rw is at found in cc
    by (Some seed) is =
        let written = number_written 0 (2 ^ 64 - 1) word seed is in
        let on : with_seed seed rest ≡ Ok request = rw is at found in
        subst (λ w. Tells (codes "workload" ∷ w ∷ rest) request) written.printed (seed_tells seed rest request on)

-- a word that names a command on a document is its word
named_by : (word : List ℕ) (command : Command) (bare verify check plan replay trace : Bool)
    → bytes_eq word (codes "bare") ≡ bare → bytes_eq word (codes "verify") ≡ verify → bytes_eq word (codes "check") ≡ check
    → bytes_eq word (codes "plan") ≡ plan → bytes_eq word (codes "replay") ≡ replay → bytes_eq word (codes "trace") ≡ trace
    → command_of word ≡ Some command → word ≡ word_of command
named_by word command true v c p r t b_is v_is c_is p_is r_is t_is found =
    let here : Some Bare ≡ Some command = rw b_is at found in let is : Bare ≡ command = cc in
    (bytes_eq-Decides word (codes "bare")).0 b_is ∙ ap word_of is
named_by word command false true c p r t b_is v_is c_is p_is r_is t_is found =
    let here : Some Verify ≡ Some command = rw (b_is, v_is) at found in let is : Verify ≡ command = cc in
    (bytes_eq-Decides word (codes "verify")).0 v_is ∙ ap word_of is
named_by word command false false true p r t b_is v_is c_is p_is r_is t_is found =
    let here : Some Check ≡ Some command = rw (b_is, v_is, c_is) at found in let is : Check ≡ command = cc in
    (bytes_eq-Decides word (codes "check")).0 c_is ∙ ap word_of is
named_by word command false false false true r t b_is v_is c_is p_is r_is t_is found =
    let here : Some Plan ≡ Some command = rw (b_is, v_is, c_is, p_is) at found in let is : Plan ≡ command = cc in
    (bytes_eq-Decides word (codes "plan")).0 p_is ∙ ap word_of is
named_by word command false false false false true t b_is v_is c_is p_is r_is t_is found =
    let here : Some Replay ≡ Some command = rw (b_is, v_is, c_is, p_is, r_is) at found in let is : Replay ≡ command = cc in
    (bytes_eq-Decides word (codes "replay")).0 r_is ∙ ap word_of is
named_by word command false false false false false true b_is v_is c_is p_is r_is t_is found =
    let here : Some Trace ≡ Some command = rw (b_is, v_is, c_is, p_is, r_is, t_is) at found in let is : Trace ≡ command = cc in
    (bytes_eq-Decides word (codes "trace")).0 t_is ∙ ap word_of is
named_by word command false false false false false false b_is v_is c_is p_is r_is t_is found =
    let bad : None ≡ Some command = rw (b_is, v_is, c_is, p_is, r_is, t_is) at found in cc

-- a command on a document stands alone
command_tells : (word : List ℕ) (values : List (List ℕ)) (request : Request) (command : Option Command) → command_of word ≡ command
    → with_values command values ≡ Ok request → Tells (word ∷ values) request
command_tells word values request None is found = let bad : Err 0 ≡ Ok request = found in cc
command_tells word [] request (Some command) is found =
    let same : word ≡ word_of command =
    named_by word command (bytes_eq word (codes "bare")) (bytes_eq word (codes "verify")) (bytes_eq word (codes "check"))
    (bytes_eq word (codes "plan")) (bytes_eq word (codes "replay")) (bytes_eq word (codes "trace")) refl refl refl refl refl refl is in
    let here : ask.Document command ≡ request = cc in
    subst (Tells (word ∷ [])) here (record { spoken = ap (λ w. w ∷ []) same; within = tt })
command_tells word (value ∷ values) request (Some command) is found = let bad : Err 1 ≡ Ok request = found in cc

-- what plain words ask for has these words
pub plain_tells : (words : List (List ℕ)) (request : Request) → answer_to_plain words ≡ Ok request → Tells words request
plain_tells [] request found = let bad : Err 0 ≡ Ok request = found in cc
plain_tells (word ∷ values) request found = by (bytes_eq word (codes "workload")) refl
  where
    by : (b : Bool) → bytes_eq word (codes "workload") ≡ b → Tells (word ∷ values) request
    by true is =
        let on : workload_by values ≡ Ok request = rw is at found in
        subst (λ w. Tells (w ∷ values) request) (sym ((bytes_eq-Decides word (codes "workload")).0 is)) (workload_tells values request on)
    by false is =
        let on : with_values (command_of word) values ≡ Ok request = rw is at found in
        command_tells word values request (command_of word) refl on

-- the values, none where clap has none
abbrev pub values_or_none : Option (List (List ℕ)) → List (List ℕ)
values_or_none None = []
values_or_none (Some values) = values

-- the values that are handed on, none where clap has none
pub or_none : {A : Type 0} (now : A → List (List ℕ)) (found : Option A) (none given : A) (values : Option (List (List ℕ)))
    → given ≡ unwrap_or found none → now none ≡ [] → option_map now found ≡ values → now given ≡ values_or_none values
or_none now None none given values is empty same = ap now is ∙ empty ∙ ap values_or_none same
or_none now (Some found) none given values is empty same = ap now is ∙ ap values_or_none same

-- what is answered to the first word and its values is answered to the words
pub plain_answer : (words : List (List ℕ)) (word : List ℕ) (values : List (List ℕ)) (answer : Result Request ℕ) → Some word ≡ slice_get words 0
    → values ≡ values_or_none (values_after words) → answer ≡ answer_to_word word values → answer_to_plain words ≡ answer
plain_answer [] word values answer first after is = let bad : Some word ≡ None = first in cc
plain_answer (w ∷ []) word values answer first after is =
    let same : word ≡ w = cc in ap (λ x. answer_to_word x []) (sym same) ∙ ap (answer_to_word word) (sym after) ∙ sym is
plain_answer (w ∷ v ∷ vs) word values answer first after is =
    let same : word ≡ w = cc in ap (λ x. answer_to_word x (v ∷ vs)) (sym same) ∙ ap (answer_to_word word) (sym after) ∙ sym is
