-- What a reference does to the facts of a log: its own, and every other frame's.
use mathlib.Core.Path.{◌≡◌, refl, sym, subst, ◌∙◌}
use mathlib.Core.Bool.{Bool, true, false, ◌&&◌, true≢false}
use mathlib.Core.List.{List}
use mathlib.Core.Logic.{◌⊎◌, inl, inr, ⊎_elim}
use Prim.Native.Nat.{ℕ, zero, suc, ◌+◌, ◌*◌, ◌≤◌, ◌<◌}
use native.Mathlib.Omega.{arith}
use native.Mathlib.Decide.{dec_lt}
use native.Mathlib.Nat.{mul-le-mul_right, suc-mul}
use lib.ListN.{length, get_or}
use lib.Dec.{eqb, ltb}
use borrow.Author.Tests.{lt-ltb, eq-eqb}
use Rattle.search.specs.Search.{pick}
use Rattle.search.proofs.Every.{pick_ind}
use Rattle.pool.proofs.Sound.{Logged}
use Rattle.reference.specs.Logs.{put_front, cleared, grown, stays, length_with, log_with}
use Rattle.reference.proofs.Logs.{put_length, put_newest, put_older, put_before, put_after, clear_zero, clear_before, clear_after}

-- a later epoch bounds the entries too
pub logged_up : (a : List ℕ) (at room n e d : ℕ) → e ≤ d → Logged a at room n e → Logged a at room n d
logged_up a at room n e d h g = record { short = g.short; falls = g.falls; high = λ j l. let q = g.high j l in omega arith; rest = g.rest }

-- an array with the same numbers in the log's places
pub logged_same : (a b : List ℕ) (at room n e : ℕ) → ((j : ℕ) → j < room → get_or b (at + j) 0 ≡ get_or a (at + j) 0) → Logged a at room n e → Logged b at room n e
logged_same a b at room n e f g =
    let short = g.short in record {
      short = short;
      falls = λ j l. rw (f j (omega arith), f (suc j) (omega arith)) (g.falls j l);
      high = λ j l. rw (f j (omega arith)) (g.high j l);
      rest = λ j l m. f j m ∙ g.rest j l m;
    }

-- a log that does not stay has a newest entry below the epoch, if any
module _ (a : List ℕ) (at room n epoch : ℕ) (on : Bool) (long : at + room ≤ length a) (some : 0 < room) (g : Logged a at room n epoch) where
  newest_other : stays on n (get_or a at 0) epoch ≡ false → 0 < n → get_or a (at + 0) 0 < epoch
  newest_other e l =
      let z : at + 0 ≡ at = omega arith in
      let high : get_or a at 0 ≤ epoch = subst (λ (k : ℕ). get_or a k 0 ≤ epoch) z (g.high 0 l) in
      let apart : get_or a at 0 ≡ epoch → ⊥ = λ q. true≢false (sym (told on q) ∙ e) in
      subst (λ (k : ℕ). get_or a k 0 < epoch) (sym z) (omega (arith, apart))
    where
      told : (b : Bool) → get_or a at 0 ≡ epoch → stays b n (get_or a at 0) epoch ≡ true
      told true q = rw (lt-ltb 0 n l, eq-eqb (get_or a at 0) epoch q)
      told false q = refl

  module _ (e : stays on n (get_or a at 0) epoch ≡ false) where
    fits : at + grown room n ≤ length a
    fits = omega arith

    put_falls : (j : ℕ) → suc j < grown room n → get_or (put_front a at (grown room n) epoch) (at + suc j) 0 < get_or (put_front a at (grown room n) epoch) (at + j) 0
    put_falls zero l = rw (put_older a at epoch (grown room n) fits 0 l, put_newest a at epoch (grown room n) fits (omega arith)) (newest_other e (omega arith))
    put_falls (suc j) l = rw (put_older a at epoch (grown room n) fits (suc j) l, put_older a at epoch (grown room n) fits j (omega arith)) (g.falls j (omega arith))

    put_high : (j : ℕ) → j < grown room n → get_or (put_front a at (grown room n) epoch) (at + j) 0 ≤ epoch
    put_high zero l = rw (put_newest a at epoch (grown room n) fits l) (omega arith)
    put_high (suc j) l = rw (put_older a at epoch (grown room n) fits j l) (g.high j (omega arith))

    put_logged : Logged (put_front a at (grown room n) epoch) at room (grown room n) epoch
    put_logged = record {
      short = omega arith;
      falls = put_falls;
      high = put_high;
      rest = λ j l m. put_after a at epoch (grown room n) fits (at + j) (omega arith) ∙ g.rest j (omega arith) m;
    }

  -- the log that the epoch is put on
  pub with_logged : Logged (log_with a at room n epoch on) at room (length_with a at room n epoch on) epoch
  unfolding log_with length_with
  with_logged = go (stays on n (get_or a at 0) epoch) refl
    where
      go : (t : Bool) → stays on n (get_or a at 0) epoch ≡ t → Logged (pick t a (put_front a at (grown room n) epoch)) at room (pick t n (grown room n)) epoch
      go true e = g
      go false e = put_logged e

-- it is not empty where it was asked for, and no shorter than it was
pub with_some : (a : List ℕ) (at room n epoch : ℕ) → 0 < room → 0 < length_with a at room n epoch true
unfolding length_with
with_some a at room n epoch h = go (ltb 0 n) refl
  where
    go : (t : Bool) → ltb 0 n ≡ t → 0 < pick (t && eqb (get_or a at 0) epoch) n (grown room n)
    go true e = pick_ind (λ (x : ℕ). 0 < x) (eqb (get_or a at 0) epoch) n (grown room n) (λ _. positive n e) (λ _. omega arith)
      where
        positive : (m : ℕ) → ltb 0 m ≡ true → 0 < m
        positive zero q = absurd (true≢false (sym q))
        positive (suc m) q = omega arith
    go false e = omega arith

pub with_kept : (a : List ℕ) (at room n epoch : ℕ) → length_with a at room n epoch false ≡ n
unfolding length_with
with_kept a at room n epoch = refl

-- places of different frames lie apart
pub apart_places : (room i j k n : ℕ) → (j ≡ i → ⊥) → k < room → n ≤ room → (j * room + k < i * room) ⊎ (i * room + n ≤ j * room + k)
apart_places room i j k n ne l h = elim (dec_lt j i) [
  | yes p ↦ let q = mul-le-mul_right room p in let e = suc-mul j room in inl (omega arith)
  | no p ↦ let m : suc i ≤ j = omega (arith, ne) in let q = mul-le-mul_right room m in let e = suc-mul i room in inr (omega arith)
]

module _ (a : List ℕ) (room i j : ℕ) (ne : j ≡ i → ⊥) (long : i * room + room ≤ length a) where
  put_other : (n epoch k : ℕ) → n ≤ room → k < room → get_or (put_front a (i * room) n epoch) (j * room + k) 0 ≡ get_or a (j * room + k) 0
  put_other n epoch k h l =
      ⊎_elim (put_before a (i * room) epoch n (omega arith) (j * room + k)) (put_after a (i * room) epoch n (omega arith) (j * room + k)) (apart_places room i j k n ne l h)

  -- another frame's places stay
  pub with_other : (n epoch : ℕ) (on : Bool) (k : ℕ) → k < room → get_or (log_with a (i * room) room n epoch on) (j * room + k) 0 ≡ get_or a (j * room + k) 0
  unfolding log_with
  with_other n epoch on k l =
      pick_ind (λ (b : List ℕ). get_or b (j * room + k) 0 ≡ get_or a (j * room + k) 0) (stays on n (get_or a (i * room) 0) epoch) a (put_front a (i * room) (grown room n) epoch) (λ _. refl) (λ _. put_other (grown room n) epoch k (omega arith) l)

  pub clear_other : (k : ℕ) → k < room → get_or (cleared a (i * room) room) (j * room + k) 0 ≡ get_or a (j * room + k) 0
  clear_other k l =
      ⊎_elim (clear_before a (i * room) room long (j * room + k)) (clear_after a (i * room) room long (j * room + k)) (apart_places room i j k room ne l (omega arith))

-- an emptied log
pub clear_logged : (a : List ℕ) (at room e : ℕ) → at + room ≤ length a → Logged (cleared a at room) at room 0 e
clear_logged a at room e h = record {
  short = omega arith;
  falls = λ j l. absurd (omega arith);
  high = λ j l. absurd (omega arith);
  rest = λ j l m. clear_zero a at room h j m;
}

pub with_length : (a : List ℕ) (at room n epoch : ℕ) (on : Bool) → at + room ≤ length a → length (log_with a at room n epoch on) ≡ length a
unfolding log_with
with_length a at room n epoch on h =
    pick_ind (λ (b : List ℕ). length b ≡ length a) (stays on n (get_or a at 0) epoch) a (put_front a at (grown room n) epoch) (λ _. refl) (λ _. put_length a at epoch (grown room n) (omega arith))
