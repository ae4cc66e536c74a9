-- The words of a memory, which are kept in pages, and what a write leaves in it.
use Rattle.std.specs.Prelude.{ℕ, ◌+◌, ◌%◌, ◌-◌, List, ◌++◌, length, take, drop, nat_le, if◌then◌else◌}
use Rattle.bsp_model.specs.declared.page.TheConstants.{WORDS_OF_A_PAGE}

-- The words from an address on, as far as the end of its page or of the memory (this profile).
abbrev pub rest_of_page : List ℕ → ℕ → List ℕ
rest_of_page memory address = take (WORDS_OF_A_PAGE - address % WORDS_OF_A_PAGE) (drop address memory)

-- The words from start on are replaced, if all of them are within the memory (this profile).
abbrev pub memory_written : List ℕ → ℕ → List ℕ → List ℕ
memory_written memory start words =
    if nat_le (start + length words) (length memory) then take start memory ++ words ++ drop (start + length words) memory
    else memory
