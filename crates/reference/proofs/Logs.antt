-- Laws of a log in its array: what putting an epoch at its front and clearing it store, and that every other place stays.
use mathlib.Core.Path.{◌≡◌, refl, ap, sym, ◌∙◌}
use mathlib.Core.Bool.{Bool, true, false, ◌&&◌, ◌||◌, not, or-true}
use mathlib.Core.List.{List, ◌∷◌}
use Prim.Native.Nat.{ℕ, zero, suc, ◌+◌, ◌-◌, ◌≤◌, ◌<◌}
use native.Mathlib.Omega.{arith}
use native.Mathlib.Numerals.{add-one}
use lib.ListN.{length, get_or, set, drop, replicate, length-drop, length-replicate, get_or-replicate}
use lib.Seq.{paste, paste-zero, paste-suc, length-paste, get_or-drop, set-get_or}
use lib.Dec.{eqb, ltb}
use native.Mathlib.Decide.{dec_lt}
use Rattle.search.specs.Search.{pick}
use Rattle.reference.specs.Logs.{put_front, cleared, grown, length_with, log_with}
use Rattle.reference.specs.ForCode.{RestZero}
use Rattle.reference.proofs.Places.{paste_in, paste_before, paste_after}

module _ (a : List ℕ) (at epoch : ℕ) where
  -- what is carried when j places are filled
  abbrev pub carried : ℕ → ℕ
  carried j = get_or (epoch ∷ drop at a) j 0

  long : (n : ℕ) → at + n ≤ length a → n ≤ length (epoch ∷ drop at a)
  long n h = rw (length-drop at a) (omega arith)

  pub put_none : a ≡ put_front a at 0 epoch
  unfolding put_front
  put_none = paste-zero a at (epoch ∷ drop at a)

  pub put_more : (j : ℕ) → at + j < length a → set (put_front a at j epoch) (at + j) (carried j) ≡ put_front a at (j + 1) epoch
  unfolding put_front
  put_more j h = paste-suc a at (epoch ∷ drop at a) j 0 h (rw (length-drop at a) (omega arith)) ∙ ap (paste a at (epoch ∷ drop at a)) (sym (add-one j))

  -- what is read at the next place is what is carried on
  pub put_next : (j : ℕ) → at + j < length a → get_or (put_front a at j epoch) (at + j) 0 ≡ carried (j + 1)
  unfolding put_front
  put_next j h =
      paste_after a at (epoch ∷ drop at a) j (omega arith) (long j (omega arith)) (at + j) (omega arith)
      ∙ sym (get_or-drop at a j 0)
      ∙ ap (λ (k : ℕ). get_or (epoch ∷ drop at a) k 0) (sym (add-one j))

  -- the same where it is asked for
  pub front_none : (on : Bool) → a ≡ pick on (put_front a at 0 epoch) a
  front_none true = put_none
  front_none false = refl

  pub front_next : (on : Bool) (b : List ℕ) (j : ℕ) → at + j < length a → b ≡ pick on (put_front a at j epoch) a → get_or b (at + j) 0 ≡ carried (j + 1)
  front_next true b j h e = ap (λ (x : List ℕ). get_or x (at + j) 0) e ∙ put_next j h
  front_next false b j h e = ap (λ (x : List ℕ). get_or x (at + j) 0) e ∙ sym (get_or-drop at a j 0) ∙ ap (λ (k : ℕ). get_or (epoch ∷ drop at a) k 0) (sym (add-one j))

  pub front_more : (on : Bool) (b : List ℕ) (j carry v : ℕ) → at + j < length a → b ≡ pick on (put_front a at j epoch) a → carry ≡ carried j → v ≡ pick on carry (get_or b (at + j) 0)
      → set b (at + j) v ≡ pick on (put_front a at (j + 1) epoch) a
  front_more true b j carry v h e c x = rw (x, e, c) (put_more j h)
  front_more false b j carry v h e c x = rw (x, e) (set-get_or a (at + j) 0)

  -- where the places past n entries are zero, moving more of them changes nothing
  module _ (n room : ℕ) (l : at + room ≤ length a) (zeros : RestZero a at room n) where
    past_entries : (m : ℕ) → n + 1 + m ≤ room → put_front a at (n + 1 + m) epoch ≡ put_front a at (n + 1) epoch
    past_entries zero b = let q : n + 1 + 0 ≡ n + 1 = omega arith in ap (λ (k : ℕ). put_front a at k epoch) q
    past_entries (suc m) b =
        let j = n + 1 + m in
        let q : n + 1 + suc m ≡ n + 1 + m + 1 = omega arith in
        let x : n + 1 + m ≡ suc (n + m) = omega arith in
        let here : carried j ≡ 0 = ap carried x ∙ get_or-drop at a (n + m) 0 ∙ zeros (n + m) (omega arith) (omega arith) in
        let there : get_or (put_front a at j epoch) (at + j) 0 ≡ 0 = put_next j (omega arith) ∙ ap carried (add-one j) ∙ get_or-drop at a j 0 ∙ zeros j (omega arith) (omega arith) in
        ap (λ (k : ℕ). put_front a at k epoch) q
        ∙ sym (put_more j (omega arith))
        ∙ ap (set (put_front a at j epoch) (at + j)) (here ∙ sym there)
        ∙ set-get_or (put_front a at j epoch) (at + j) 0
        ∙ past_entries m (omega arith)

    pub put_whole : put_front a at room epoch ≡ put_front a at (grown room n) epoch
    put_whole = elim (dec_lt n room) [
      | yes b ↦
          let q : n + 1 + (room - (n + 1)) ≡ room = omega arith in
          let g : grown room n ≡ n + 1 = omega arith in
          ap (λ (k : ℕ). put_front a at k epoch) (sym q) ∙ past_entries (room - (n + 1)) (omega arith) ∙ ap (λ (k : ℕ). put_front a at k epoch) (sym g)
      | no b ↦ let g : grown room n ≡ room = omega (arith, b) in ap (λ (k : ℕ). put_front a at k epoch) (sym g)
    ]

  module _ (n : ℕ) (room : at + n ≤ length a) where
    pub put_length : length (put_front a at n epoch) ≡ length a
    unfolding put_front
    put_length = length-paste a at (epoch ∷ drop at a) n room (long n room)

    pub put_newest : 0 < n → get_or (put_front a at n epoch) (at + 0) 0 ≡ epoch
    unfolding put_front
    put_newest l = paste_in a at (epoch ∷ drop at a) n room (long n room) 0 l

    pub put_older : (j : ℕ) → suc j < n → get_or (put_front a at n epoch) (at + suc j) 0 ≡ get_or a (at + j) 0
    unfolding put_front
    put_older j l = paste_in a at (epoch ∷ drop at a) n room (long n room) (suc j) l ∙ get_or-drop at a j 0

    pub put_before : (k : ℕ) → k < at → get_or (put_front a at n epoch) k 0 ≡ get_or a k 0
    unfolding put_front
    put_before = paste_before a at (epoch ∷ drop at a) n room (long n room)

    pub put_after : (k : ℕ) → at + n ≤ k → get_or (put_front a at n epoch) k 0 ≡ get_or a k 0
    unfolding put_front
    put_after = paste_after a at (epoch ∷ drop at a) n room (long n room)

-- clearing
module _ (a : List ℕ) (at n : ℕ) where
  abbrev pub cleared_to : ℕ → List ℕ
  cleared_to j = paste a at (replicate n 0) j

  pub clear_none : a ≡ cleared_to 0
  clear_none = paste-zero a at (replicate n 0)

  pub clear_more : (b : List ℕ) (j : ℕ) → b ≡ cleared_to j → at + n ≤ length a → j < n → set b (at + j) 0 ≡ cleared_to (j + 1)
  clear_more b j e h l =
      ap (λ (x : List ℕ). set x (at + j) 0) e
      ∙ ap (set (cleared_to j) (at + j)) (sym (get_or-replicate n j 0 0 l))
      ∙ paste-suc a at (replicate n 0) j 0 (omega arith) (rw (length-replicate {A = ℕ} n 0) l)
      ∙ ap (paste a at (replicate n 0)) (sym (add-one j))

  pub clear_all : (b : List ℕ) → b ≡ cleared_to n → b ≡ cleared a at n
  unfolding cleared
  clear_all b e = e

  module _ (room : at + n ≤ length a) where
    all : n ≤ length {A = ℕ} (replicate n 0)
    all = rw (length-replicate {A = ℕ} n 0) (omega arith)

    pub clear_length : length (cleared a at n) ≡ length a
    unfolding cleared
    clear_length = length-paste a at (replicate n 0) n room all

    pub clear_zero : (j : ℕ) → j < n → get_or (cleared a at n) (at + j) 0 ≡ 0
    unfolding cleared
    clear_zero j l = paste_in a at (replicate n 0) n room all j l ∙ get_or-replicate n j 0 0 l

    pub clear_rest : (b : List ℕ) → b ≡ cleared a at n → RestZero b at n 0
    clear_rest b e j _ l = ap (λ (x : List ℕ). get_or x (at + j) 0) e ∙ clear_zero j l

    pub clear_before : (k : ℕ) → k < at → get_or (cleared a at n) k 0 ≡ get_or a k 0
    unfolding cleared
    clear_before = paste_before a at (replicate n 0) n room all

    pub clear_after : (k : ℕ) → at + n ≤ k → get_or (cleared a at n) k 0 ≡ get_or a k 0
    unfolding cleared
    clear_after = paste_after a at (replicate n 0) n room all

-- the two ways through putting an epoch on a log
module _ (a : List ℕ) (at room n epoch : ℕ) (on : Bool) where
  abbrev newest : Bool
  newest = ltb 0 n && eqb (get_or a at 0) epoch

  pub put_stays : newest ≡ true → (n ≡ length_with a at room n epoch on) × (a ≡ log_with a at room n epoch on)
  unfolding length_with log_with
  put_stays e = (rw (e, or-true (not on)), rw (e, or-true (not on)))

  pub put_goes : (m : ℕ) (b : List ℕ) → newest ≡ false → at + room ≤ length a → RestZero a at room n → m ≡ pick on (grown room n) n → b ≡ pick on (put_front a at room epoch) a
      → (m ≡ length_with a at room n epoch on) × (b ≡ log_with a at room n epoch on)
  unfolding length_with log_with
  put_goes m b e l z d h = go on d h
    where
      go : (t : Bool) → m ≡ pick t (grown room n) n → b ≡ pick t (put_front a at room epoch) a
          → (m ≡ pick (not t || newest) n (grown room n)) × (b ≡ pick (not t || newest) a (put_front a at (grown room n) epoch))
      go true d h = (rw e d, rw e (h ∙ put_whole a at epoch n room l z))
      go false d h = (d, h)
