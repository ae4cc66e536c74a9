-- What a program can do in its turn.
use Rattle.std.specs.Prelude.{ℕ, List}

-- The acts, named as the calls (Hill et al. 1998; store, charge and print are this profile's). Of move_into the length of the buffer is given.
pub data Act : Type 0 where
  store : (address value : ℕ) → Act
  charge : (amount : ℕ) → Act
  put : (pid : ℕ) → (words : List ℕ) → (area offset : ℕ) → Act
  get : (pid area offset into len : ℕ) → Act
  send : (pid : ℕ) → (tag words : List ℕ) → Act
  move_into : (room : ℕ) → Act
  push_reg : (start len : ℕ) → Act
  pop_reg : (start : ℕ) → Act
  set_tagsize : (size : ℕ) → Act
  print : (words : List ℕ) → Act
