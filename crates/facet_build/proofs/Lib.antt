mod Tail
