-- The theorems that a reader reads: demand 1; openings and the ends of runs; demands 2 and 3; both of every whole link; one outcome; a run is
-- its single orders; the stand-ins.
pub mod Safety
pub mod Ends
pub mod Demands
pub mod Everywhere
pub mod One
pub mod Singly
pub mod Standins
