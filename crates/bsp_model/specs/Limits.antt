-- The limits of a run and of its document (this profile): at most so many of each. `src/limits.rt` has the numbers. A word has 64 bits.
use Rattle.std.specs.Prelude.{ℕ}
use Rattle.bsp_model.specs.declared.limits.TheConstants.{HIGHEST_PRICE, MOST_ARGUMENTS, MOST_COST, MOST_DOCUMENT_BYTES, MOST_H, MOST_LINES, MOST_LINE_WORDS, MOST_MEMORY_WORDS, MOST_MESSAGES, MOST_PAYLOAD_WORDS, MOST_PROCESSES, MOST_REQUESTS, MOST_REQUEST_WORDS, MOST_SLOTS, MOST_SUPERSTEPS, MOST_TAG_WORDS, MOST_WORK, MOST_WORKERS}

-- the processes of a run
abbrev pub most_processes : ℕ
most_processes = MOST_PROCESSES

-- the words in the memory of a process
abbrev pub most_memory_words : ℕ
most_memory_words = MOST_MEMORY_WORDS

-- the arguments of a process, which are words
abbrev pub most_arguments : ℕ
most_arguments = MOST_ARGUMENTS

-- the supersteps of a run
abbrev pub most_supersteps : ℕ
most_supersteps = MOST_SUPERSTEPS

-- the price of a word of the h-relation, and of a synchronisation
abbrev pub highest_price : ℕ
highest_price = HIGHEST_PRICE

-- the work that a process charges in a superstep
abbrev pub most_work : ℕ
most_work = MOST_WORK

-- the requests of a process in a superstep: puts, gets, sends, pushes and pops together
abbrev pub most_requests : ℕ
most_requests = MOST_REQUESTS

-- the words in the payload of a message
abbrev pub most_payload_words : ℕ
most_payload_words = MOST_PAYLOAD_WORDS

-- the words in the tag of a message
abbrev pub most_tag_words : ℕ
most_tag_words = MOST_TAG_WORDS

-- the slots in a registration table
abbrev pub most_slots : ℕ
most_slots = MOST_SLOTS

-- the lines that a process prints in a superstep
abbrev pub most_lines : ℕ
most_lines = MOST_LINES

-- the words in a printed line
abbrev pub most_line_words : ℕ
most_line_words = MOST_LINE_WORDS

-- the bytes of a document, and of a line of a live session
abbrev pub most_document_bytes : ℕ
most_document_bytes = MOST_DOCUMENT_BYTES

-- the workers that share the turns and the deliveries of a run
abbrev pub most_workers : ℕ
most_workers = MOST_WORKERS

-- the messages in a queue: all requests of all processes
abbrev pub most_messages : ℕ
most_messages = MOST_MESSAGES

-- the words that a request moves: those of a memory, or of a tag and a payload
abbrev pub most_request_words : ℕ
most_request_words = MOST_REQUEST_WORDS

-- the h of a superstep: the words that one process sends or receives
abbrev pub most_h : ℕ
most_h = MOST_H

-- the cost of a superstep
abbrev pub most_cost : ℕ
most_cost = MOST_COST
