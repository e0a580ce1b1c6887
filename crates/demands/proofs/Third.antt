-- The third demand holds.
use mathlib.Core.Path.{◌≡◌, refl, ap, sym, subst, ◌∙◌}
use mathlib.Core.Bool.{true}
use mathlib.Core.List.{List, [], ◌++◌, append-nil}
use Prim.Native.Nat.{ℕ, ◌<◌}
use lib.ListN.{length, get_or}
use lib.Dec.{leb}
use Rattle.search.proofs.Among.{among_at}
use Rattle.refusal.specs.Refusals.{demand, no_room, has_pins}
use Rattle.word.specs.declared.Order.{Order}
use Rattle.word.proofs.Laws.{bytes_of_lem}
use Rattle.settings.specs.declared.Settings.{Settings}
use Rattle.settings.specs.Settings.{in_range}
use Rattle.trace.specs.Layout.{Trace}
use Rattle.trace.specs.Check.{refusal_of, trace_of}
use Rattle.trace.proofs.Accept.{accepted}
use Rattle.trace.proofs.Whole.{proper}
use Rattle.pool.specs.declared.Pool.{Pool}
use Rattle.pool.specs.Pool.{fresh_pool}
use Rattle.pool.proofs.Sound.{made}
use Rattle.pool.proofs.Opening.{empty_sound}
use Rattle.tally.specs.Tally.{zero_tally}
use Rattle.replay.specs.Replay.{Played, replay_of}
use Rattle.fresh.specs.Fresh.{fresh_counts}
use Rattle.curve.specs.Curve.{sizes, curve_of, no_pins, curve_refusal}
use Rattle.curve.proofs.Called.{curve_renamed}
use Rattle.host.specs.Counts.{count_bytes, host_refusal}
use Rattle.host.specs.Curve.{curve_length}
use Rattle.rename.specs.Renamed.{renamed_pool, renamed_bytes}
use Rattle.rename.specs.Sameness.{resident_pages, Renames, Given, OnlySameness}
use Rattle.rename.proofs.Sameness.{only_sameness}
use Rattle.rename.proofs.Calls.{replay_alike, counts_alike}
use Rattle.rename.proofs.Steps.{step_alike}
use Rattle.rename.proofs.Images.{saved_alike, written_alike, loaded_alike, image_alike, step_from_image}
use Rattle.demands.specs.Third.{SameCounts, SameCurve, ThirdDemand}

-- a fresh pool holds no page, and renamed it is the same
no_pages : (x : Settings) → resident_pages (fresh_pool x).frames ≡ []
unfolding resident_pages fresh_pool
no_pages x = refl

fresh_renamed : (ρ : ℕ → ℕ) (x : Settings) → renamed_pool ρ (fresh_pool x) ≡ fresh_pool x
unfolding fresh_pool
fresh_renamed ρ x = refl

fresh_given : (x : Settings) (s : List ℕ) → in_range x ≡ true → ((i : ℕ) → get_or s i 0 < 256) → refusal_of s ≡ 0 → Given (fresh_pool x) s
unfolding fresh_pool
fresh_given x s r bytes z = record { stored = record { bytes = bytes; frames = refl; access = refl; write = refl }; sound = made (fresh_pool x) (empty_sound x r); accepted = z }

module _ (ρ : ℕ → ℕ) (s : List ℕ) (bytes : (i : ℕ) → get_or s i 0 < 256) (z : refusal_of s ≡ 0) (names : Renames ρ (trace_of s).pages) (o : Order) where
  abbrev settings : Settings
  settings = (trace_of s).settings

  alike : OnlySameness ρ (fresh_pool settings) zero_tally s
  alike =
      only_sameness ρ (fresh_pool settings) zero_tally s (fresh_given settings s (proper s (bytes_of_lem s bytes) z).range bytes z)
      (subst (Renames ρ) (sym (ap (λ (l : List ℕ). (trace_of s).pages ++ l) (no_pages settings) ∙ append-nil (trace_of s).pages)) names)

  same_settings_lem : (trace_of (renamed_bytes ρ o s)).settings ≡ settings
  same_settings_lem = ap (λ (t : Trace). t.settings) (alike.read o)

  same_counts : fresh_counts (trace_of (renamed_bytes ρ o s)) ≡ fresh_counts (trace_of s)
  unfolding fresh_counts
  same_counts =
      ap (λ (p : Pool). (replay_of p zero_tally (trace_of (renamed_bytes ρ o s))).tally) (ap fresh_pool same_settings_lem ∙ sym (fresh_renamed ρ settings))
      ∙ ap (λ (r : Played). r.tally) (alike.replayed o)

  same_refusal : (room : ℕ) → host_refusal (renamed_bytes ρ o s) room ≡ host_refusal s room
  unfolding host_refusal
  same_refusal room = rw ((accepted (renamed_bytes ρ o s) _ (alike.accepted o)).0, z)

  same_bytes : o ≡ (trace_of s).order → count_bytes (trace_of (renamed_bytes ρ o s)).order (fresh_counts (trace_of (renamed_bytes ρ o s))) ≡ count_bytes (trace_of s).order (fresh_counts (trace_of s))
  same_bytes own =
      ap (λ (u : Order). count_bytes u (fresh_counts (trace_of (renamed_bytes ρ o s)))) (ap (λ (t : Trace). t.order) (alike.read o) ∙ own)
      ∙ ap (count_bytes (trace_of s).order) same_counts

  transport : SameCounts ρ s o
  transport = record {
    counts = same_counts;
    answer = λ out r r' out₁ out₂ x y. y.answers ∙ same_refusal (length out) ∙ sym x.answers;
    stored = λ out r r' out₁ out₂ x y own. y.out_holds ∙ rw (same_refusal (length out), same_bytes own) (sym x.out_holds);
  }

  -- the curve
  same_curve : curve_of (trace_of (renamed_bytes ρ o s)).pages ≡ curve_of (trace_of s).pages
  same_curve =
      let pages = (trace_of s).pages in
      ap (λ (t : Trace). curve_of t.pages) (alike.read o)
      ∙ curve_renamed ρ pages (λ i j l m e. names.one_to_one (get_or pages i 0) (get_or pages j 0) (among_at pages i l) (among_at pages j m) e)

  same_curve_refusal : (needed room : ℕ) → curve_refusal (renamed_bytes ρ o s) needed room ≡ curve_refusal s needed room
  unfolding curve_refusal
  same_curve_refusal needed room =
      rw ((accepted (renamed_bytes ρ o s) _ (alike.accepted o)).0, z)
      (ap (λ (t : Trace). demand (no_pins t.kinds) has_pins (demand (leb needed room) no_room 0)) (alike.read o))

  curves : SameCurve ρ s o
  curves = record {
    curve = λ list r r' list₁ list₂ x y. (
      y.answers ∙ same_curve_refusal sizes (length list) ∙ sym x.answers,
      y.list_holds ∙ rw (same_curve_refusal sizes (length list), same_curve) (sym x.list_holds),
    );
    answer = λ out r r' out₁ out₂ x y. y.answers ∙ same_curve_refusal curve_length (length out) ∙ sym x.answers;
    stored = λ out r r' out₁ out₂ x y own.
        y.out_holds
        ∙ rw (same_curve_refusal curve_length (length out), same_curve, ap (λ (t : Trace). t.order) (alike.read o) ∙ own) (sym x.out_holds);
  }

-- the theorem
pub third_demand : ThirdDemand
third_demand = record { replays = only_sameness; replay = replay_alike; counts = counts_alike; step = step_alike; transport = transport; curves = curves; saved = saved_alike; written = written_alike; loaded = loaded_alike; image = image_alike; image_step = step_from_image }
