-- Outcomes that are being gathered, and behind them what the turn that is under way has issued so far.
use Rattle.std.specs.Prelude.{ℕ, List, [], ◌∷◌, Option, None, IfSome, ◌≡◌, ◌≤◌, ◌+◌, length}
use Rattle.bsp_model.specs.LocalParts.{LocalParts}
use Rattle.bsp_model.specs.Columns.{row_at}
use Rattle.bsp_model.specs.Inside.Columns.{pair_at}
use Rattle.bsp_model.specs.Inside.Beside.{stores_in, HaveWords}
use Rattle.bsp_model.specs.declared.request.Put.{Put}
use Rattle.bsp_model.specs.declared.request.Get.{Get}
use Rattle.bsp_model.specs.declared.request.Send.{Send}
use Rattle.bsp_model.specs.declared.fault.Fault.{Fault}
use Rattle.bsp_model.specs.declared.range.Range.{Range}
use Rattle.bsp_table.specs.declared.area.Area.{Area}
use Rattle.bsp_step.specs.declared.lists.Lists.{Lists}
use Rattle.bsp_step.specs.declared.open_lists.OpenLists.{OpenLists}
use Rattle.bsp_step.specs.declared.lists.TurnEnd.{TurnEnd}
use Rattle.bsp_step.specs.OutcomeParts.{OutcomeParts}
use Rattle.bsp_step.specs.Inside.Outcomes.{outcomes_of, AreOutcomes, first_at, kept_beside}

pub record Gathered : Type 0 where
  pub earlier : List OutcomeParts
  pub puts : List Put
  pub gets : List Get
  pub sends : List Send
  pub pops : List ℕ
  pub pushes : List Area
  pub lines : List (List ℕ)

-- a turn that has issued nothing yet
abbrev pub begun : List OutcomeParts → Gathered
begun earlier = record { earlier = earlier; puts = []; gets = []; sends = []; pops = []; pushes = []; lines = [] }

-- the requests that it has issued
abbrev pub count_of_issued : Gathered → ℕ
count_of_issued g = length g.puts + length g.gets + length g.sends + length g.pops + length g.pushes

-- what the turn leaves that ends so
abbrev pub outcome_by : Gathered → TurnEnd → Option Fault → Option ℕ → LocalParts → OutcomeParts
outcome_by g end fault tag local =
    record {
      fault = fault;
      ended = end.ended;
      memory = local.memory;
      stores = local.stores;
      puts = g.puts;
      gets = g.gets;
      sends = g.sends;
      pops = g.pops;
      pushes = g.pushes;
      tag = tag;
      lines = g.lines;
      work = end.work;
    }

-- the rows of the turns that have ended
abbrev pub rows_in : OpenLists → Lists
rows_in l =
    record {
      faults = l.faults;
      stores = l.stores;
      puts = l.puts.rows;
      gets = l.gets.rows;
      sends = l.sends.rows;
      pops = l.pops.rows;
      pushes = l.pushes.rows;
      tags = l.tags;
      lines = l.lines.rows;
    }

-- Columns have a row for each of these outcomes, and behind them that of the turn under way.
abbrev pub gathered_in : List TurnEnd → List (List ℕ) → OpenLists → Gathered
gathered_in ends memories l =
    record {
      earlier = outcomes_of ends memories (rows_in l);
      puts = l.puts.last;
      gets = l.gets.last;
      sends = l.sends.last;
      pops = l.pops.last;
      pushes = l.pushes.last;
      lines = l.lines.last;
    }

-- columns without a row
abbrev pub no_rows : Lists
no_rows =
    record { faults = []; stores = ([], []); puts = []; gets = []; sends = []; pops = []; pushes = []; tags = []; lines = [] }

-- no rows, and nothing issued
abbrev pub no_lists : OpenLists
no_lists =
    record {
      faults = [];
      stores = ([], []);
      tags = [];
      puts = record { rows = []; last = [] };
      gets = record { rows = []; last = [] };
      sends = record { rows = []; last = [] };
      pops = record { rows = []; last = [] };
      pushes = record { rows = []; last = [] };
      lines = record { rows = []; last = [] };
    }

-- what the turn under way has issued alone
abbrev pub only_issued : OpenLists → OpenLists
only_issued l =
    record {
      faults = [];
      stores = ([], []);
      tags = [];
      puts = record { rows = []; last = l.puts.last };
      gets = record { rows = []; last = l.gets.last };
      sends = record { rows = []; last = l.sends.last };
      pops = record { rows = []; last = l.pops.last };
      pushes = record { rows = []; last = l.pushes.last };
      lines = record { rows = []; last = l.lines.last };
    }

-- From a process on no row has an item.
pub record AreBefore (lists : Lists) (n : ℕ) : Type 0 where
  pub faults : (k : ℕ) → n ≤ k → row_at lists.faults k ≡ []
  pub stores : (k : ℕ) → n ≤ k → pair_at lists.stores k ≡ ([], [])
  pub tags : (k : ℕ) → n ≤ k → row_at lists.tags k ≡ []
  pub puts : length lists.puts ≤ n
  pub gets : length lists.gets ≤ n
  pub sends : length lists.sends ≤ n
  pub pops : length lists.pops ≤ n
  pub pushes : length lists.pushes ≤ n
  pub lines : length lists.lines ≤ n

-- The turn under way has issued nothing.
pub record HasNothing (l : OpenLists) : Type 0 where
  pub puts : l.puts.last ≡ []
  pub gets : l.gets.last ≡ []
  pub sends : l.sends.last ≡ []
  pub pops : l.pops.last ≡ []
  pub pushes : l.pushes.last ≡ []
  pub lines : l.lines.last ≡ []

-- The turn under way has issued puts alone, has no fault, and chose no tag size.
pub record HasOnlyPuts (l : OpenLists) (fault : Option Fault) (tag : Option ℕ) : Type 0 where
  pub gets : l.gets.last ≡ []
  pub sends : l.sends.last ≡ []
  pub pops : l.pops.last ≡ []
  pub pushes : l.pushes.last ≡ []
  pub lines : l.lines.last ≡ []
  pub no_fault : fault ≡ None
  pub no_tag : tag ≡ None

-- The rows of the outcomes alone have items. The fault, the stores and the choice of a tag size of the turn under way are put at its end.
pub record IsGathered (ends : List TurnEnd) (memories : List (List ℕ)) (l : OpenLists) (requests : ℕ) : Type 0 where
  pub outcomes : AreOutcomes ends memories (rows_in l)
  pub before : AreBefore (rows_in l) (length ends)
  pub count : requests ≡ count_of_issued (gathered_in ends memories l)

-- A range, where there is one, is all stores of a turn, whose words stand in its memory.
abbrev pub IsStored : Option Range → LocalParts → Type 0
IsStored stored local = IfSome stored (λ r. HaveWords (r ∷ [], []) local.memory × (stores_in (r ∷ [], []) local.memory ≡ local.stores))

-- What a turn issued, its fault, its choice of a tag size, and its stores beside its memory are the rows of a process, and nothing stands behind them.
pub record IsEnded (old : OpenLists) (place : ℕ) (stored : Option Range) (fault : Option Fault) (tag : Option ℕ) (local : LocalParts) (new : OpenLists) : Type 0 where
  pub beside : HaveWords (kept_beside stored (pair_at new.stores place)) local.memory
  pub stores : stores_in (kept_beside stored (pair_at new.stores place)) local.memory ≡ local.stores
  pub faults : first_at new.faults place ≡ fault
  pub tags : first_at new.tags place ≡ tag
  pub puts : row_at new.puts.rows place ≡ old.puts.last
  pub gets : row_at new.gets.rows place ≡ old.gets.last
  pub sends : row_at new.sends.rows place ≡ old.sends.last
  pub pops : row_at new.pops.rows place ≡ old.pops.last
  pub pushes : row_at new.pushes.rows place ≡ old.pushes.last
  pub lines : row_at new.lines.rows place ≡ old.lines.last
  pub nothing : HasNothing new
  pub behind : AreBefore (rows_in new) (place + 1)
