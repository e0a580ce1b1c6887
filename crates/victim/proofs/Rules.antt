-- What every rule owes, the pool's own rule owes.
use Rattle.std.proofs.Common.{◌≡◌, ℕ, zero, suc, ◌≤◌, [], sym, refl, ap, subst, ◌∙◌, arith, Option, None}
use Rattle.search.proofs.Least.{one_or_none}
use Rattle.settings.proofs.Laws.{ranges}
use Rattle.pool.specs.declared.Pool.{Pool}
use Rattle.pool.specs.Pool.{frame_at}
use Rattle.pool.proofs.Sound.{Sound}
use Rattle.pool.proofs.Sizes.{Sized}
use Rattle.victim.specs.Choice.{Choice, Rule, unmoved, left_by}
use Rattle.table.specs.declared.Bench.{Bench}
use Rattle.victim.specs.ForCode.{Chose}
use Rattle.victim.specs.Rules.{no_rule, by_rule, choice_of, batch_order}
use Rattle.victim.proofs.Owed.{AllPinned, lowered_same, quiet_of, Serves, Owes}
use Rattle.victim.proofs.lru.Laws.{lru_serves, lru_owes}
use Rattle.victim.proofs.clock.Laws.{clock_serves, clock_owes}
use Rattle.victim.proofs.watt.Laws.{watt_serves, watt_owes}

-- no rule changes nothing
none_owes : Owes no_rule
none_owes = record {
  unpinned = λ p v s e. absurd (one_or_none v (sym e));
  still = λ p e. refl;
  lowers = λ p i. lowered_same (frame_at p.frames i);
  long = λ p. refl;
  quiet = λ p s. quiet_of p s (unmoved p None) s.hand (λ i. lowered_same (frame_at p.frames i));
  sound = λ p s. s;
  pages = λ new stays p. refl;
  sorts = λ new stays p i j. refl;
}

-- each rule, by its number
rule_owes : (r : ℕ) → Owes (by_rule r)
rule_owes zero = lru_owes
rule_owes (suc zero) = clock_owes
rule_owes (suc (suc zero)) = watt_owes
rule_owes (suc (suc (suc r))) = none_owes

rule_serves : (r : ℕ) → r ≤ 2 → Serves (by_rule r).choice
rule_serves zero l = lru_serves
rule_serves (suc zero) l = clock_serves
rule_serves (suc (suc zero)) l = watt_serves
rule_serves (suc (suc (suc r))) l = absurd (omega arith)

-- the rule that a pool's settings name
abbrev pub own_rule : Rule
own_rule = record { choice = choice_of; order = batch_order; name = [] }

pub choice_owes : Owes own_rule
unfolding choice_of batch_order
choice_owes = record {
  unpinned = λ p. (rule_owes p.settings.rule).unpinned p;
  still = λ p. (rule_owes p.settings.rule).still p;
  lowers = λ p. (rule_owes p.settings.rule).lowers p;
  long = λ p. (rule_owes p.settings.rule).long p;
  quiet = λ p. (rule_owes p.settings.rule).quiet p;
  sound = λ p. (rule_owes p.settings.rule).sound p;
  pages = λ new stays p. (rule_owes p.settings.rule).pages new stays p;
  sorts = λ new stays p. (rule_owes p.settings.rule).sorts new stays p;
}

-- a sound pool's rule is one of the three
pub choice_serves : (p : Pool) → Sound p → ((choice_of p).found ≡ None → AllPinned p) × (AllPinned p → (choice_of p).found ≡ None)
unfolding choice_of
choice_serves p s = rule_serves p.settings.rule (ranges p.settings s.settings).rule p

-- what the rule of a number chooses is the pool's own choice
pub choice_by : (p : Pool) (c : Choice) (r : ℕ) → p.settings.rule ≡ r → c ≡ (by_rule r).choice p → c ≡ choice_of p
unfolding choice_of
choice_by p c r e h = h ∙ rw e

-- and it leaves what that leaves
pub chose_by : (p : Pool) (r : ℕ) (found : Option ℕ) (b : Bench) → p.settings.rule ≡ r → Chose p ((by_rule r).choice p) found b → Chose p (choice_of p) found b
unfolding choice_of
chose_by p r found b e h = subst (λ (k : ℕ). Chose p ((by_rule k).choice p) found b) (sym e) h

-- past the last rule there is none
none_past : (r : ℕ) → 3 ≤ r → by_rule r ≡ no_rule
none_past zero l = absurd (omega arith)
none_past (suc zero) l = absurd (omega arith)
none_past (suc (suc zero)) l = absurd (omega arith)
none_past (suc (suc (suc r))) l = refl

pub choice_none : (p : Pool) → 3 ≤ p.settings.rule → unmoved p None ≡ choice_of p
unfolding choice_of
choice_none p l = ap (λ (x : Rule). x.choice p) (sym (none_past p.settings.rule l))

pub no_name : (r : ℕ) → 3 ≤ r → [] ≡ (by_rule r).name
no_name r l = ap (λ (x : Rule). x.name) (sym (none_past r l))

-- and what it leaves is as long as it was
pub choice_sized : (p : Pool) → Sized p → Sized (left_by p (choice_of p))
choice_sized p z = record { frames = choice_owes.long p ∙ z.frames; access = z.access; write = z.write }
