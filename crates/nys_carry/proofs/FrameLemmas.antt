-- The frames of a direction, and the packets that are due, as one more stands behind them.
use Rattle.std.proofs.Common.{ℕ, ◌+◌, ◌≡◌, Bool, true, false, List, [], ◌∷◌, ◌++◌, refl, sym, ap, ◌∙◌, inl, inr, append-nil}
use Rattle.std.specs.Prelude.{◌⊎◌}
use Rattle.std.proofs.lemmas.List.{append_assoc}
use Rattle.std.proofs.lemmas.Bool.{cases_eq, eq-eqb, ne_eqb}
use Rattle.std.proofs.lemmas.Grind.{flat_map-append}
use Rattle.nys_outside.specs.Network.{Directed, Elsewhere}
use Rattle.nys_rules.specs.Packets.{Sent}
use Rattle.nys_carry.specs.Carrying.{directed, due, frame_of, frames, if_due, is_due, is_way, IsLess}

-- the direction, or another one
pub way_cases : (from to f t : ℕ) → ((f ≡ from) × (t ≡ to) × (is_way from to f t ≡ true))
    ⊎ (((f ≡ from) × (t ≡ to) → ⊥) × (is_way from to f t ≡ false))
way_cases from to f t = elim (cases_eq from f) [
  | inl ef ↦ elim (cases_eq to t) [
    | inl et ↦ inl (sym ef, sym et, rw (eq-eqb from f ef, eq-eqb to t et) refl)
    | inr nt ↦ inr (λ both. nt (sym both.1), rw (eq-eqb from f ef, ne_eqb to t nt) refl)
  ]
  | inr nf ↦ inr (λ both. nf (sym both.0), rw (ne_eqb from f nf) refl)
]

-- one frame more
frames_more : (f t : ℕ) (all : List Directed) (d : Directed) → frames f t (all ++ d ∷ []) ≡ frames f t all ++ frame_of f t d
frames_more f t all d =
    flat_map-append (frame_of f t) all (d ∷ []) ∙ ap (λ z. frames f t all ++ z) (append-nil (frame_of f t d))

-- a frame of this direction
pub frames_here : (f t : ℕ) (all : List Directed) (d : Directed) → is_way d.from d.to f t ≡ true
    → frames f t (all ++ d ∷ []) ≡ frames f t all ++ d.frame ∷ []
frames_here f t all d is = frames_more f t all d ∙ ap (λ z. frames f t all ++ z) (rw is refl)

-- a frame of another direction
pub frames_other : (f t : ℕ) (all : List Directed) (d : Directed) → is_way d.from d.to f t ≡ false
    → frames f t (all ++ d ∷ []) ≡ frames f t all
frames_other f t all d is =
    frames_more f t all d ∙ ap (λ z. frames f t all ++ z) (rw is refl) ∙ append-nil (frames f t all)

-- one packet more
due_more : (honest : ℕ → Bool) (pool : List Sent) (p : Sent) → due honest (pool ++ p ∷ []) ≡ due honest pool ++ if_due honest p
due_more honest pool p =
    flat_map-append (if_due honest) pool (p ∷ []) ∙ ap (λ z. due honest pool ++ z) (append-nil (if_due honest p))

-- a packet that is due
pub due_here : (honest : ℕ → Bool) (pool : List Sent) (p : Sent) → is_due honest p ≡ true
    → due honest (pool ++ p ∷ []) ≡ due honest pool ++ directed p ∷ []
due_here honest pool p is = due_more honest pool p ∙ ap (λ z. due honest pool ++ z) (rw is refl)

-- a packet that isn't
pub due_other : (honest : ℕ → Bool) (pool : List Sent) (p : Sent) → is_due honest p ≡ false
    → due honest (pool ++ p ∷ []) ≡ due honest pool
due_other honest pool p is =
    due_more honest pool p ∙ ap (λ z. due honest pool ++ z) (rw is refl) ∙ append-nil (due honest pool)

-- one more that went
pub less_kept : (all went : List Directed) (missing : ℕ) (d : Directed) → IsLess all went missing
    → IsLess (all ++ d ∷ []) (went ++ d ∷ []) missing
less_kept [] went missing d e = inl ([], ap (λ z. z ++ d ∷ []) e, refl)
less_kept (x ∷ all) went missing d less = elim less [
  | inl kept ↦ inl (kept.0 ++ d ∷ [], ap (λ z. z ++ d ∷ []) kept.1, less_kept all kept.0 missing d kept.2)
  | inr lost ↦ inr (lost.0, lost.1, less_kept all went lost.0 d lost.2)
]

-- one more that is missing
pub less_lost : (all went : List Directed) (missing : ℕ) (d : Directed) → IsLess all went missing
    → IsLess (all ++ d ∷ []) went (missing + 1)
less_lost [] went missing d e = inr (missing, refl, e)
less_lost (x ∷ all) went missing d less = elim less [
  | inl kept ↦ inl (kept.0, kept.1, less_lost all kept.0 missing d kept.2)
  | inr lost ↦ inr (lost.0 + 1, ap (λ n. n + 1) lost.1, less_lost all went lost.0 d lost.2)
]

-- one more may be missing
pub less_fewer : (all went : List Directed) (missing : ℕ) → IsLess all went missing → IsLess all went (missing + 1)
less_fewer [] went missing e = e
less_fewer (x ∷ all) went missing less = elim less [
  | inl kept ↦ inl (kept.0, kept.1, less_fewer all kept.0 missing kept.2)
  | inr lost ↦ inr (lost.0 + 1, ap (λ n. n + 1) lost.1, less_fewer all went lost.0 lost.2)
]

-- a frame that waits behind the others of its direction has gone
pub each_sent : (given went : List Directed) (d : Directed) (first old new : ℕ → ℕ → List (List ℕ))
    → new d.from d.to ≡ old d.from d.to ++ d.frame ∷ [] → Elsewhere d.from d.to old new
    → ((f t : ℕ) → frames f t given ++ old f t ≡ first f t ++ frames f t went)
    → (f t : ℕ) → frames f t given ++ new f t ≡ first f t ++ frames f t (went ++ d ∷ [])
each_sent given went d first old new waits apart each f t = elim (way_cases d.from d.to f t) [
  | inl here ↦
      let now : new f t ≡ old f t ++ d.frame ∷ [] = rw (here.0, here.1) waits in
      ap (λ z. frames f t given ++ z) now
      ∙ sym (append_assoc (frames f t given) (old f t) (d.frame ∷ []))
      ∙ ap (λ z. z ++ d.frame ∷ []) (each f t)
      ∙ append_assoc (first f t) (frames f t went) (d.frame ∷ [])
      ∙ ap (λ z. first f t ++ z) (sym (frames_here f t went d here.2))
  | inr other ↦
      ap (λ z. frames f t given ++ z) (apart f t other.0)
      ∙ each f t
      ∙ ap (λ z. first f t ++ z) (sym (frames_other f t went d other.1))
]

-- the oldest frame of its direction was given
pub each_given : (given went : List Directed) (d : Directed) (first old new : ℕ → ℕ → List (List ℕ))
    → old d.from d.to ≡ d.frame ∷ new d.from d.to → Elsewhere d.from d.to old new
    → ((f t : ℕ) → frames f t given ++ old f t ≡ first f t ++ frames f t went)
    → (f t : ℕ) → frames f t (given ++ d ∷ []) ++ new f t ≡ first f t ++ frames f t went
each_given given went d first old new front apart each f t = elim (way_cases d.from d.to f t) [
  | inl here ↦
      let was : old f t ≡ d.frame ∷ new f t = rw (here.0, here.1) front in
      ap (λ z. z ++ new f t) (frames_here f t given d here.2)
      ∙ append_assoc (frames f t given) (d.frame ∷ []) (new f t)
      ∙ ap (λ z. frames f t given ++ z) (sym was)
      ∙ each f t
  | inr other ↦
      ap (λ z. z ++ new f t) (frames_other f t given d other.1)
      ∙ ap (λ z. frames f t given ++ z) (apart f t other.0)
      ∙ each f t
]
