mod CardAcceptance
mod Firsts
mod Listings
mod MoveDecoding
mod Records
mod Schedules
mod SheetAcceptance
mod Threads
