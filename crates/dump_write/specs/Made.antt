-- The dump that is made from a seed and a count of processes, line by line. Process i has the pid `<0.i.0>`,
-- and the processes are counted from 1. Numbers are decimal, and addresses are in upper-case hex.
use Rattle.std.specs.Prelude.{ℕ, ◌+◌, ◌-◌, ◌*◌, ◌%◌, ◌==◌, List, [], ◌∷◌, ◌++◌, decimal, codes, replicate, if◌then◌else◌}
use Rattle.std.specs.List.{concat, flat_map, range_with_len}
use Rattle.dump_io.specs.Numbers.{hexadecimal}
use Rattle.dump_write.specs.Written.{lines_of}

-- how many messages the mailbox of process i has
abbrev pub queue_of : ℕ → ℕ → ℕ
queue_of seed i = (seed % 10 + 7 * i) % 10

-- the process after process i, with the first after the last
abbrev pub next_of : ℕ → ℕ → ℕ
next_of count i = i % count + 1

-- the process before process i, with the last before the first
abbrev pub previous_of : ℕ → ℕ → ℕ
previous_of count i = (i + count - 2) % count + 1

-- the address of the first cell in the heap of process i
abbrev pub heap_of : ℕ → ℕ
heap_of i = 4096 * i

-- a process is linked to both neighbours, or to the next alone if its mailbox is empty
abbrev pub link_list : ℕ → ℕ → ℕ → List ℕ
link_list queue next previous =
    if queue == 0 then concat (codes "Link list: [<0." ∷ decimal next ∷ codes ".0>]" ∷ [])
    else concat (codes "Link list: [<0." ∷ decimal next ∷ codes ".0>, <0." ∷ decimal previous ∷ codes ".0>]" ∷ [])

-- the process: waiting, with a name, the length of its mailbox, its links and its memory
abbrev pub proc_section : ℕ → ℕ → ℕ → ℕ → List (List ℕ)
proc_section i queue next previous =
    concat (codes "=proc:<0." ∷ decimal i ∷ codes ".0>" ∷ [])
    ∷ codes "State: Waiting"
    ∷ concat (codes "Name: p" ∷ decimal i ∷ [])
    ∷ concat (codes "Message queue length: " ∷ decimal queue ∷ [])
    ∷ link_list queue next previous
    ∷ codes "Memory: 2000"
    ∷ []

-- the root of the stack is the first cell of the heap
abbrev pub stack_section : ℕ → List (List ℕ)
stack_section i = concat (codes "=proc_stack:<0." ∷ decimal i ∷ codes ".0>" ∷ []) ∷ concat (codes "y0:H" ∷ hexadecimal (heap_of i) ∷ []) ∷ []

-- the root of the dictionary is the third cell of the heap
abbrev pub dictionary_section : ℕ → List (List ℕ)
dictionary_section i = concat (codes "=proc_dictionary:<0." ∷ decimal i ∷ codes ".0>" ∷ []) ∷ concat (codes "H" ∷ hexadecimal (heap_of i + 32) ∷ []) ∷ []

-- each message is the integer 1, without a token
abbrev pub messages_section : ℕ → ℕ → List (List ℕ)
messages_section i queue = concat (codes "=proc_messages:<0." ∷ decimal i ∷ codes ".0>" ∷ []) ∷ replicate queue (codes "I1:N")

-- the second cell of a heap: its tail is the first cell if
-- the mailbox has 5 messages, and otherwise the empty list
abbrev pub second_cell : ℕ → ℕ → List ℕ
second_cell queue heap =
    if queue == 5 then concat (hexadecimal (heap + 16) ∷ codes ":lH" ∷ hexadecimal (heap + 32) ∷ codes "|H" ∷ hexadecimal heap ∷ [])
    else concat (hexadecimal (heap + 16) ∷ codes ":lH" ∷ hexadecimal (heap + 32) ∷ codes "|N" ∷ [])

-- a list of two, whose second element is a tuple of a map with a
-- key among the literals and a reference to a range of the binary
abbrev pub cells : ℕ → ℕ → ℕ → List (List ℕ)
cells i queue heap =
    concat (hexadecimal heap ∷ codes ":lI" ∷ decimal queue ∷ codes "|H" ∷ hexadecimal (heap + 16) ∷ [])
    ∷ second_cell queue heap
    ∷ concat (hexadecimal (heap + 32) ∷ codes ":t2:H" ∷ hexadecimal (heap + 48) ∷ codes ",H" ∷ hexadecimal (heap + 64) ∷ [])
    ∷ concat (hexadecimal (heap + 48) ∷ codes ":Mf1:H10:I" ∷ decimal i ∷ [])
    ∷ concat (hexadecimal (heap + 64) ∷ codes ":Yc20:1:3" ∷ [])
    ∷ []

-- the heap has five cells
abbrev pub made_heap : ℕ → ℕ → List (List ℕ)
made_heap i queue = concat (codes "=proc_heap:<0." ∷ decimal i ∷ codes ".0>" ∷ []) ∷ cells i queue (heap_of i)

-- the sections of process i, whose mailbox has this many messages
abbrev pub sections_with : ℕ → ℕ → ℕ → List (List ℕ)
sections_with count i queue =
    proc_section i queue (next_of count i) (previous_of count i)
    ++ (stack_section i ++ (dictionary_section i ++ (messages_section i queue ++ made_heap i queue)))

-- the sections of process i
abbrev pub made_process : ℕ → ℕ → ℕ → List (List ℕ)
made_process seed count i = sections_with count i (queue_of seed i)

-- what stands before the processes
abbrev pub first_sections : ℕ → ℕ → List (List ℕ)
first_sections seed count =
    codes "=erl_crash_dump:0.5"
    ∷ concat (codes "Slogan: made " ∷ decimal seed ∷ codes " " ∷ decimal count ∷ [])
    ∷ codes "=memory"
    ∷ concat (codes "total: " ∷ decimal (1000 * count) ∷ [])
    ∷ []

-- what stands after the processes: a literal, a binary and the end
abbrev pub last_sections : List (List ℕ)
last_sections =
    codes "=literals"
    ∷ codes "10:t1:A3:key"
    ∷ codes "=binary:20"
    ∷ codes "5:aGVsbG8="
    ∷ codes "=end"
    ∷ []

-- the texts of all lines
abbrev pub made_texts : ℕ → ℕ → List (List ℕ)
made_texts seed count =
    first_sections seed count ++ (flat_map (made_process seed count) (range_with_len 1 count) ++ last_sections)

-- the made dump
unfoldable pub made : ℕ → ℕ → List ℕ
made seed count = lines_of (made_texts seed count)
