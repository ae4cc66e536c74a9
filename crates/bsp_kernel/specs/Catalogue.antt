-- The catalogue whose documents give their program as a kernel (this profile).
use Rattle.std.specs.Prelude.{ℕ, ℤ, Bool, false, option_and_then, ◌&&◌, ◌||◌, List, map, codes, Option, None, Some, is_some, refl}
use Rattle.std.specs.Cmp.Lexicographic.{same_text}
use Rattle.std.specs.List.{list_any}
use Rattle.std.specs.Str.{bytes_eq}
use Rattle.std.proofs.Common.{◌≡◌, ◌∙◌, ap, sym, true, inl, inr}
use Rattle.std.proofs.lemmas.Bool.{or_cases}
use Rattle.toml.specs.Data.{Data, Members, as_integer, get_member}
use Rattle.bsp_kernels.specs.declared.instruction.Instruction.{Instruction}
use Rattle.bsp_kernels.specs.declared.instruction.Instruction.TheVariants.{Sync}
use Rattle.bsp_kernels.specs.declared.kernel.Kernel.{Kernel}
use Rattle.bsp_engine.specs.Catalogue.{Meaning, ReadsOwnKeys}
use Rattle.bsp_engine.specs.Tree.{has, elements, elements_at, elements_in, integer_at, is_negative, natural_of}
use Rattle.bsp_engine.specs.Keys.{HasKeysApart, common_keys, is_integer, is_row, passes}
use Rattle.bsp_engine.specs.Values.{word_of}
use Rattle.bsp_kernel.specs.declared.catalogue.TheConstants.{BUDGET, LOOKING_BUDGET}
use Rattle.bsp_kernel.specs.Operands.{filled}
use Rattle.bsp_kernel.specs.Shapes.{template_in, is_code, has_negative_number}

abbrev pub instruction_with : Option Instruction → List Data → Instruction
instruction_with None ds = Sync
instruction_with (Some template) ds = filled template ds

-- the instruction that a value is; it is of use only where the document has no fault
abbrev pub instruction_of : Data → Instruction
instruction_of d = instruction_with (template_in (elements d)) (elements d)

abbrev pub budget_of : Option ℤ → ℕ
budget_of None = BUDGET
budget_of (Some n) = natural_of (Some n)

-- the kernel of a document
abbrev pub kernel_of : Members → Kernel
kernel_of t =
    record {
      code = map instruction_of (elements_at (codes "kernel") t);
      constants = map word_of (elements_at (codes "constants") t);
      budget = budget_of (integer_at (codes "budget") t);
      looking_budget = LOOKING_BUDGET;
    }

abbrev pub has_right_code : Members → Bool
has_right_code t = passes is_code (get_member (codes "kernel") t)

abbrev pub has_right_constants : Members → Bool
has_right_constants t = passes is_row (get_member (codes "constants") t)

abbrev pub has_right_budget : Members → Bool
has_right_budget t = passes is_integer (get_member (codes "budget") t)

abbrev pub is_negative_in : Option Data → Bool
is_negative_in None = false
is_negative_in (Some d) = is_negative d

-- a number of an instruction, a constant, or the budget is negative
abbrev pub has_negative : Members → Bool
has_negative t =
    list_any has_negative_number (elements_at (codes "kernel") t)
    || list_any is_negative (elements_at (codes "constants") t)
    || is_negative_in (get_member (codes "budget") t)

-- What the keys `kernel`, `constants` and `budget` mean. The first is required; any array of instructions is a program.
abbrev pub kernel_meaning : Meaning Kernel
kernel_meaning =
    record {
      has_required_keys = λ t. has (codes "kernel") t;
      has_right_shapes = λ t. has_right_code t && has_right_constants t && has_right_budget t;
      is_key = λ key. bytes_eq key (codes "kernel") || bytes_eq key (codes "constants") || bytes_eq key (codes "budget");
      program_of = λ t. Some (kernel_of t);
      has_negative_word = has_negative;
    }

pub kernel_meaning-reads_own_keys : ReadsOwnKeys kernel_meaning
kernel_meaning-reads_own_keys =
    record {
      required_keys = λ t u agree. ap is_some (agree.values (codes "kernel") refl);
      right_shapes = λ t u agree i. passes is_code (agree.values (codes "kernel") refl i) && passes is_row (agree.values (codes "constants") refl i) && passes is_integer (agree.values (codes "budget") refl i);
      program = λ t u agree i. Some (record {
        code = map instruction_of (elements_in (agree.values (codes "kernel") refl i));
        constants = map word_of (elements_in (agree.values (codes "constants") refl i));
        budget = budget_of (option_and_then as_integer (agree.values (codes "budget") refl i));
        looking_budget = LOOKING_BUDGET;
      });
      negative_word = λ t u agree i. list_any has_negative_number (elements_in (agree.values (codes "kernel") refl i)) || list_any is_negative (elements_in (agree.values (codes "constants") refl i)) || is_negative_in (agree.values (codes "budget") refl i);
    }

key_apart : (key : List ℕ) (word : List ℕ) → bytes_eq key word ≡ true → list_any (bytes_eq word) common_keys ≡ false → list_any (bytes_eq key) common_keys ≡ false
key_apart key word is apart = ap (λ (k : List ℕ). list_any (bytes_eq k) common_keys) (same_text key word (sym is)) ∙ apart

pub kernel_meaning-keys_apart : HasKeysApart kernel_meaning
kernel_meaning-keys_apart = λ key is.
    elim (or_cases (bytes_eq key (codes "kernel") || bytes_eq key (codes "constants")) (bytes_eq key (codes "budget")) is) [
      | inl one ↦ elim (or_cases (bytes_eq key (codes "kernel")) (bytes_eq key (codes "constants")) one) [
        | inl kernel ↦ key_apart key (codes "kernel") kernel refl
        | inr constants ↦ key_apart key (codes "constants") constants refl
      ]
      | inr budget ↦ key_apart key (codes "budget") budget refl
    ]
