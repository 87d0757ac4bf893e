-- Nodes and their votes: no vote is ahead of its maker's epoch and log, and none follows a freeze.
use Rattle.std.proofs.Common.{◌≡◌, ◌≢◌, ℕ, ◌+◌, ◌<◌, ◌≤◌, ◌⊎◌, [], ◌∷◌, ◌++◌, length, refl, sym, ap, subst, ◌∙◌, inl, inr, true, false, arith, length-append}
use Rattle.std.specs.Prelude.{Bool}
use Rattle.std.proofs.lemmas.Bool.{cases_eq}
use Rattle.nys_bytes.specs.declared.content.Content.{Content}
use Rattle.nys_hosts.specs.Counts.{AtLeast}
use Rattle.nys_hosts.proofs.QuorumLemmas.{AtLeast-shared}
use Rattle.nys_source.specs.Rules.{Rules}
use Rattle.nys_source.specs.Tables.{put}
use Rattle.nys_agreement.specs.Net.{HasFewLiars, Net, quorum_in}
use Rattle.nys_agreement.specs.Said.{By, FrozeBy, Has, Said, Vouches}
use Rattle.nys_agreement.specs.Said.Said.{Deliver, Frozen}
use Rattle.nys_agreement.specs.Assembly.{Assembly}
use Rattle.nys_agreement.specs.Events.{Enabled, Event, MaySay}
use Rattle.nys_agreement.specs.Events.Event.{Decides, Enters, Hands, Inherits, Logs, Opens, Retires, Says, TopWedges, Wedges}
use Rattle.nys_agreement.specs.After.{after, with_entry}
use Rattle.nys_agreement.proofs.TableLemmas.{put_at_case, put_case, put_here, put_there}

-- a Deliver is of its maker's epoch or an earlier one, of a living host, at or past the base and not
-- past the maker's log
pub record InReach (w : Assembly) (x e h s : ℕ) : Type 0 where
  pub begun : e ≤ w.epoch x
  pub lives : w.live e h ≡ true
  pub above_base : w.base e h ≤ s
  pub within : s ≤ length (w.log x h)

-- node x says nothing more in epoch e
abbrev pub IsDone : Assembly → ℕ → ℕ → Type 0
IsDone w x e = (e < w.epoch x) ⊎ ((e ≡ w.epoch x) × (w.wedged x ≡ true))

-- the nodes' votes
pub record VotesOk (w : Assembly) : Type 0 where
  pub epochs : (x : ℕ) → w.epoch x ≤ w.top
  pub delivers : (x e h s : ℕ) (c : Content) → Has w.ledger (By x (Deliver e h s c)) → InReach w x e h s
  pub done : (x e h f : ℕ) → Has w.ledger (By x (Frozen e h f)) → IsDone w x e
  pub frozen : (x e h f s : ℕ) (c : Content) → Has w.ledger (By x (Frozen e h f)) → Has w.ledger (By x (Deliver e h s c)) → s < f

-- a node that is done with an epoch has none of its slots open
done_not_open : (w : Assembly) (x e now : ℕ) → IsDone w x e → w.epoch x ≡ now → w.wedged x ≡ false → e ≢ now
done_not_open w x e now (inl past) is active same = absurd (omega arith)
done_not_open w x e now (inr here) is active same = absurd (let a = here.1 in cc)

-- a new statement of g
says_delivers : {S : Type 0} (rules : Rules S) (net : Net) (w : Assembly) → VotesOk w → (g : ℕ) (said : Said) → MaySay rules net w g said → (x e h s : ℕ) (c : Content) → Has (By g said ∷ w.ledger) (By x (Deliver e h s c)) → InReach w x e h s
says_delivers rules net w ok g said may x e h s c (inr old) = ok.delivers x e h s c old
says_delivers rules net w ok g said may x e h s c (inl new) =
    let who : g ≡ x = cc in
    let what : said ≡ Deliver e h s c = cc in
    let now = subst (MaySay rules net w g) what may in
    let a = now.0.now in
    let b = now.0.length_is in
    subst (λ (y : ℕ). InReach w y e h s) who (record {
      begun = omega arith;
      lives = now.0.lives;
      above_base = now.0.above_base;
      within = omega arith;
    })

-- a new Frozen is of a node that says no more in its epoch
says_done : {S : Type 0} (rules : Rules S) (net : Net) (w : Assembly) → VotesOk w → (g : ℕ) (said : Said) → MaySay rules net w g said → (x e h f : ℕ) → Has (By g said ∷ w.ledger) (By x (Frozen e h f)) → IsDone w x e
says_done rules net w ok g said may x e h f (inr old) = ok.done x e h f old
says_done rules net w ok g said may x e h f (inl new) =
    let who : g ≡ x = cc in
    let what : said ≡ Frozen e h f = cc in
    let now = subst (MaySay rules net w g) what may in
    subst (λ (y : ℕ). IsDone w y e) who (inr (sym now.1, now.2))

-- and it is past all its Delivers
says_frozen : {S : Type 0} (rules : Rules S) (net : Net) (w : Assembly) → VotesOk w → (g : ℕ) (said : Said) → MaySay rules net w g said → (x e h f s : ℕ) (c : Content) → Has (By g said ∷ w.ledger) (By x (Frozen e h f)) → Has (By g said ∷ w.ledger) (By x (Deliver e h s c)) → s < f
says_frozen rules net w ok g said may x e h f s c (inr a) (inr b) = ok.frozen x e h f s c a b
says_frozen rules net w ok g said may x e h f s c (inl a) (inl b) = absurd (cc)
says_frozen rules net w ok g said may x e h f s c (inl a) (inr b) =
    let who : g ≡ x = cc in
    let what : said ≡ Frozen e h f = cc in
    let now = subst (MaySay rules net w g) what may in
    now.3 s c (subst (λ (y : ℕ). Has w.ledger (By y (Deliver e h s c))) (sym who) b)
says_frozen rules net w ok g said may x e h f s c (inr a) (inl b) =
    let who : g ≡ x = cc in
    let what : said ≡ Deliver e h s c = cc in
    let now = subst (MaySay rules net w g) what may in
    let done = subst (λ (y : ℕ). IsDone w y e) (sym who) (ok.done x e h f a) in
    absurd (done_not_open w g e e done now.0.now now.0.active refl)

-- a log that takes an entry
entry_reach : (w : Assembly) (g i : ℕ) (c : Content) (x e h s : ℕ) → InReach w x e h s → InReach (with_entry w g i c) x e h s
entry_reach w g i c x e h s reach = let a = reach.within in record {
  begun = reach.begun;
  lives = reach.lives;
  above_base = reach.above_base;
  within = put_at_case (λ log. s ≤ length log) w.log g i (w.log g i ++ c ∷ []) x h
      (λ p q. let e1 = ap (λ n. length (w.log n h)) p in let e2 = ap (λ n. length (w.log g n)) q in let l = length-append (w.log g i) (c ∷ []) in omega arith)
      (λ other. a);
}

-- which keeps all votes in reach
entry_votes : (w : Assembly) (g i : ℕ) (c : Content) → VotesOk w → VotesOk (with_entry w g i c)
entry_votes w g i c ok = record {
  epochs = ok.epochs;
  delivers = λ x e h s d has. entry_reach w g i c x e h s (ok.delivers x e h s d has);
  done = ok.done;
  frozen = ok.frozen;
}

-- a node that is wedged
wedge_done : (w : Assembly) (g x e : ℕ) → IsDone w x e → IsDone (after w (Wedges g)) x e
wedge_done w g x e (inl past) = inl past
wedge_done w g x e (inr here) = inr (here.0, put_case (λ b. b ≡ true) w.wedged g true x (λ q. refl) (λ q. here.1))

-- a node that enters a later epoch
enter_reach : (w : Assembly) (g to x e h s : ℕ) → w.epoch g < to → InReach w x e h s → InReach (after w (Enters g to)) x e h s
enter_reach w g to x e h s later reach = let a = reach.begun in record {
  begun = put_case (λ n. e ≤ n) w.epoch g to x (λ q. let b = ap w.epoch q in omega arith) (λ q. a);
  lives = reach.lives;
  above_base = reach.above_base;
  within = reach.within;
}

-- and it is done with the epochs that it left
enter_done : (w : Assembly) (g to x e : ℕ) → w.epoch g < to → IsDone w x e → IsDone (after w (Enters g to)) x e
enter_done w g to x e later (inl past) = inl (put_case (λ n. e < n) w.epoch g to x (λ q. let b = ap w.epoch q in omega arith) (λ q. past))
enter_done w g to x e later (inr here) = elim (cases_eq x g) [
  | inl q ↦ let a = here.0 in let b = ap w.epoch q in let lt : e < to = omega arith in inl (subst (λ (n : ℕ). e < n) (sym (ap (put w.epoch g to) q ∙ put_here w.epoch g to)) lt)
  | inr ne ↦ inr (here.0 ∙ sym (put_there w.epoch g to x ne), put_there w.wedged g false x ne ∙ here.1)
]

-- a new epoch leaves the tables of the old ones
pub epoch_kept : {A : Type 0} (f : ℕ → A) (top : ℕ) (v : A) (e : ℕ) → e ≤ top → put f (top + 1) v e ≡ f e
epoch_kept f top v e le = put_there f (top + 1) v e (λ q. absurd (omega arith))

-- a new epoch, which keeps all votes in reach
open_reach : (w : Assembly) (x e h s : ℕ) → VotesOk w → InReach w x e h s → InReach (after w Opens) x e h s
open_reach w x e h s ok reach =
    let a = reach.begun in
    let b = ok.epochs x in
    let le : e ≤ w.top = omega arith in
    record {
      begun = reach.begun;
      lives = ap (λ (f : ℕ → Bool). f h) (epoch_kept w.live w.top w.decided_now e le) ∙ reach.lives;
      above_base = subst (λ (n : ℕ). n ≤ s) (sym (ap (λ (f : ℕ → ℕ). f h) (epoch_kept w.base w.top (λ i. length (w.decided i)) e le))) reach.above_base;
      within = reach.within;
    }

-- each event keeps this
pub votes_step : {S : Type 0} (rules : Rules S) (net : Net) (w : Assembly) (event : Event) → VotesOk w → Enabled rules net w event → VotesOk (after w event)
votes_step rules net w (Says g said) ok may = record {
  epochs = ok.epochs;
  delivers = λ x e h s c has. let r = says_delivers rules net w ok g said may x e h s c has in record { begun = r.begun; lives = r.lives; above_base = r.above_base; within = r.within };
  done = says_done rules net w ok g said may;
  frozen = says_frozen rules net w ok g said may;
}
votes_step rules net w (Logs g h c) ok may = entry_votes w g h c ok
votes_step rules net w (Inherits g h c) ok may = entry_votes w g h c ok
votes_step rules net w (Wedges g) ok may = record {
  epochs = ok.epochs;
  delivers = λ x e h s c has. let r = ok.delivers x e h s c has in record { begun = r.begun; lives = r.lives; above_base = r.above_base; within = r.within };
  done = λ x e h f has. wedge_done w g x e (ok.done x e h f has);
  frozen = ok.frozen;
}
votes_step rules net w (Enters g to) ok may = record {
  epochs = λ x. put_case (λ n. n ≤ w.top) w.epoch g to x (λ q. may.2) (λ q. ok.epochs x);
  delivers = λ x e h s c has. enter_reach w g to x e h s may.1 (ok.delivers x e h s c has);
  done = λ x e h f has. enter_done w g to x e may.1 (ok.done x e h f has);
  frozen = ok.frozen;
}
votes_step rules net w (Hands h payload) ok may = record {
  epochs = ok.epochs;
  delivers = λ x e i s c has. let r = ok.delivers x e i s c has in record { begun = r.begun; lives = r.lives; above_base = r.above_base; within = r.within };
  done = ok.done;
  frozen = ok.frozen;
}
votes_step rules net w TopWedges ok may = record {
  epochs = ok.epochs;
  delivers = λ x e i s c has. let r = ok.delivers x e i s c has in record { begun = r.begun; lives = r.lives; above_base = r.above_base; within = r.within };
  done = ok.done;
  frozen = ok.frozen;
}
votes_step rules net w (Decides h more) ok may = record {
  epochs = ok.epochs;
  delivers = λ x e i s c has. let r = ok.delivers x e i s c has in record { begun = r.begun; lives = r.lives; above_base = r.above_base; within = r.within };
  done = ok.done;
  frozen = ok.frozen;
}
votes_step rules net w (Retires h) ok may = record {
  epochs = ok.epochs;
  delivers = λ x e i s c has. let r = ok.delivers x e i s c has in record { begun = r.begun; lives = r.lives; above_base = r.above_base; within = r.within };
  done = ok.done;
  frozen = ok.frozen;
}
votes_step rules net w Opens ok may = record {
  epochs = λ x. let a = ok.epochs x in omega arith;
  delivers = λ x e h s c has. open_reach w x e h s ok (ok.delivers x e h s c has);
  done = ok.done;
  frozen = ok.frozen;
}

-- no quorum delivers in a slot where a quorum is frozen at it or before: they share an honest guard
pub barrier : (net : Net) → HasFewLiars net → (w : Assembly) → VotesOk w → (e h s f : ℕ) (c : Content) → AtLeast (quorum_in net e h) (Vouches net w.ledger e h (Deliver e h s c)) → AtLeast (quorum_in net e h) (FrozeBy net w.ledger e h f) → s < f
barrier net good w ok e h s f c delivers frozen =
    let x = AtLeast-shared (net.t e h) (net.guards e h) net.liars (Vouches net w.ledger e h (Deliver e h s c)) (FrozeBy net w.ledger e h f)
    (λ m v. v.0) (λ m v. v.0) (good.few e h) delivers frozen in
    let at = x.3.1 x.4 in
    let lt = ok.frozen x.0 e h at.0 s c at.2 (x.2.1 x.4) in
    let le = at.1 in
    omega arith
