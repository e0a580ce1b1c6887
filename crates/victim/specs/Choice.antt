-- What the rules share: which frames may leave, what a rule leaves behind, and what makes a rule.
use Rattle.std.specs.Prelude.{ℕ, Bool, List, ◌==◌, Option}
use Rattle.pool.specs.declared.Frame.{Frame}
use Rattle.pool.specs.declared.Pool.{Pool}
use Rattle.pool.specs.Pool.{frame_at, with_hand, with_sampler, with_frames}

-- whether frame i is unpinned, as victims always are
abbrev pub unpinned : List Frame → ℕ → Bool
unpinned fs i = (frame_at fs i).pins == 0

-- what a rule leaves: its victim or none, and hand, sampler number and frames then
pub record Choice : Type 0 where
  pub found : Option ℕ
  pub hand : ℕ
  pub sampler : ℕ
  pub frames : List Frame

-- what was found, with hand, sampler number and frames as they are
abbrev pub unmoved : Pool → Option ℕ → Choice
unmoved p v = record { found = v; hand = p.hand; sampler = p.sampler; frames = p.frames }

-- the pool with a choice's hand, sampler number and frames
abbrev pub left_by : Pool → Choice → Pool
left_by p c = with_frames (with_sampler (with_hand p c.hand) c.sampler) c.frames

-- a rule: what it chooses, the order of its batches (whether frame i comes before frame j), and its name, a byte for each letter
pub record Rule : Type 0 where
  pub choice : Pool → Choice
  pub order : Pool → ℕ → ℕ → Bool
  pub name : List ℕ
